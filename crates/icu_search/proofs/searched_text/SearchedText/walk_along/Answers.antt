use Rattle.std.proofs.Common.{rules}
use Rattle.unicode_normalization.proofs.IterLemmas.{Spells-slice}
use Rattle.icu_search.proofs.searched_text.SearchedText.walk_along.Goals as goal

pub returns : goal.returns
returns c = c.walk.ensures (c.new-places.ensures.text (Spells-slice c.copied.result c.args.rest.now (search rules)))
