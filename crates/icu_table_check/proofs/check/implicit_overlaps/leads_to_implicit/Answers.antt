use Rattle.std.proofs.Common.{◌∙◌}
use Rattle.icu_table_data.specs.Reachable.{reachable_from}
use Rattle.icu_table_data.specs.StoredData.{data_of}
use Rattle.icu_table_check.proofs.ImplicitOverlapLemmas.{found_any}
use Rattle.icu_table_check.proofs.check.implicit_overlaps.leads_to_implicit.Goals as goal

pub returns : goal.returns
returns c = c.in-Ok.ensures ∙ found_any (reachable_from (data_of c.args.home) c.args.entry)
