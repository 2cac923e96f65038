use Rattle.std.proofs.Common.{◌≡◌, map, drop}
use Rattle.icu_rule_steps.specs.symbolic_mappings.StoredMappings.{root_mapping}
use Rattle.icu_rule_root.specs.CheckedRoots.{elements_of_suffix}
use Rattle.icu_rule_root.proofs.checked_root.leading_of_suffix.Given as goal

abbrev pub invariant-loop-mapping : goal.invariant-loop-mapping
invariant-loop-mapping l = elements_of_suffix l.fn.suffix (map root_mapping (drop l.mapping-index l.fn.mappings)) ≡ elements_of_suffix l.fn.suffix (map root_mapping l.fn.mappings)
