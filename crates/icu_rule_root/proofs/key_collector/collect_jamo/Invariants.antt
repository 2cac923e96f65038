use Rattle.icu_table_data.specs.CollectedWeights.{Adds}
use Rattle.icu_table_provider.specs.well_formed.Checked.{checked_tables}
use Rattle.icu_rule_root.specs.inner.KeyCollections.{HoldsBelow, IsJamoKey}
use Rattle.icu_rule_root.proofs.key_collector.collect_jamo.Given as goal

-- the keys of the places so far were added
abbrev pub invariant-loop-place : goal.invariant-loop-place
invariant-loop-place l = Adds (HoldsBelow (IsJamoKey (checked_tables l.fn.tables).tables) l.place) l.fn.collector.keys.items l.collector.keys.items
