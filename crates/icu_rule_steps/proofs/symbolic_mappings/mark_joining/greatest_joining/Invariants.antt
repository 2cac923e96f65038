use Rattle.std.proofs.Common.{◌≡◌, ◌<◌, ℕ, [], ◌∷◌, ◌++◌, drop}
use Rattle.ucd_normal.specs.CanonicalCombiningClass.{canonical_combining_class as class_of}
use Rattle.icu_rule_meaning.specs.TailoredMappings.{mapping_with}
use Rattle.icu_rule_steps.specs.symbolic_mappings.inner.Tiers.{lent_mappings}
use Rattle.icu_rule_steps.proofs.symbolic_mappings.mark_joining.greatest_joining.Given as goal

-- the mapping with a mark of a greater class is that of the mappings to come
abbrev pub invariant-loop-mapping : goal.invariant-loop-mapping
invariant-loop-mapping l =
    (m : ℕ) → l.greatest < class_of m
    → mapping_with (lent_mappings (drop l.mapping-index l.mappings)) (l.suffix ++ m ∷ []) ≡ mapping_with (lent_mappings l.mappings) (l.suffix ++ m ∷ [])
