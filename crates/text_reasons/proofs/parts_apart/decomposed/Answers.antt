use Rattle.std.proofs.Common.{rules}
use Rattle.unicode_normalization.proofs.IterLemmas.{Spells-slice}
use Rattle.text_reasons.proofs.parts_apart.decomposed.Goals as goal

pub returns : goal.returns
returns c = c.in_ok-list.ensures c.args.text.now (Spells-slice c.copied.result c.args.text.now (search rules))
