use Rattle.std.proofs.Common.{◌∙◌}
use Rattle.icu_search_places.proofs.indexed_text.CopyLemmas.{among}
use Rattle.icu_search_places.proofs.indexed_text.marked_offsets.is_among.Goals as goal

pub returns : goal.returns
returns c = c.is_ok.ensures.value ∙ among c.args.sorted.now c.args.offset c.binary_search-place.result c.binary_search-place.ensures.bound c.binary_search-place.ensures.position c.requires
