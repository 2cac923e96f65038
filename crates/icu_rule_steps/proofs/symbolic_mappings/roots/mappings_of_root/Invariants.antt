use Rattle.std.proofs.Common.{◌≡◌, map}
use Rattle.icu_rule_meaning.specs.TailoredMappings.{mapping_of_root}
use Rattle.icu_rule_steps.specs.symbolic_mappings.StoredMappings.{root_mapping, symbolic_mappings}
use Rattle.icu_rule_steps.proofs.symbolic_mappings.roots.mappings_of_root.Given as goal

abbrev pub invariant-loop-mapping : goal.invariant-loop-mapping
invariant-loop-mapping l = symbolic_mappings l.found.items ≡ map mapping_of_root (map root_mapping l.yielded)
