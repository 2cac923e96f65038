use Rattle.icu_table_data.specs.CollectedWeights.{Adds}
use Rattle.icu_rule_root.specs.inner.KeyCollections.{HoldsBelow, IsDiacriticKey}
use Rattle.icu_rule_root.proofs.key_collector.collect_diacritics.Given as goal

-- the keys of the places so far were added
abbrev pub invariant-loop-place : goal.invariant-loop-place
invariant-loop-place l = Adds (HoldsBelow (IsDiacriticKey l.fn.secondaries) l.place) l.fn.collector.keys.items l.collector.keys.items
