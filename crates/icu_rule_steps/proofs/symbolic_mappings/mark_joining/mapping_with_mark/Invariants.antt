use Rattle.std.proofs.Common.{◌≡◌, [], ◌∷◌, ◌++◌, drop}
use Rattle.icu_rule_meaning.specs.TailoredMappings.{mapping_with}
use Rattle.icu_rule_steps.specs.symbolic_mappings.inner.Tiers.{lent_mappings}
use Rattle.icu_rule_steps.proofs.symbolic_mappings.mark_joining.mapping_with_mark.Given as goal

abbrev pub invariant-loop-mapping : goal.invariant-loop-mapping
invariant-loop-mapping l = mapping_with (lent_mappings (drop l.mapping-index l.mappings)) (l.suffix ++ l.mark ∷ []) ≡ mapping_with (lent_mappings l.mappings) (l.suffix ++ l.mark ∷ [])
