-- Behind the last text there is the empty one.
use Rattle.std.proofs.Common.{rules}
use Rattle.std.proofs.lemmas.Option.{slice_get_past}
use Rattle.icu_collator.proofs.sort.text_indices.text_at.Goals as goal

pub returns-in-None : goal.returns-in-None
returns-in-None c = search (rules, slice_get_past)
