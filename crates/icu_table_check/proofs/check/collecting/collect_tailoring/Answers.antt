use Rattle.icu_table_check.proofs.CollectLemmas.{loaded_tailoring, loaded_no_tailoring}
use Rattle.icu_table_check.proofs.check.collecting.collect_tailoring.Goals as goal

pub returns-in-Some : goal.returns-in-Some
returns-in-Some g c = loaded_tailoring c.args.tables c.args.list c.in-Some.tailoring c.in-Some.is _ _ _ c.collect_weights.ensures

pub returns-in-None : goal.returns-in-None
returns-in-None g c = loaded_no_tailoring c.args.tables c.args.list c.in-None.is _
