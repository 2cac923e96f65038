use Rattle.icu_table_check.proofs.CollectLemmas.{loaded_root}
use Rattle.icu_table_check.proofs.check.collecting.collect_root.Goals as goal

pub returns : goal.returns
returns g c = loaded_root c.args.tables c.args.list _ _ _ c.collect_weights.ensures
