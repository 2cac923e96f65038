use Rattle.icu_table_data.specs.StoredData.{data_of}
use Rattle.icu_table_data.proofs.ReachLemmas.{found_any}
use Rattle.icu_table_data.proofs.character_walk.leads_to.Goals as goal

pub returns : goal.returns
returns c = found_any c.args.part (data_of c.args.home) c.args.entry _ c.in-Ok.ensures
