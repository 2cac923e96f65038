use Rattle.std.proofs.Common.{◌≡◌, drop, map}
use Rattle.icu_rule_steps.specs.symbolic_mappings.StoredMappings.{root_mapping}
use Rattle.icu_rule_steps.specs.symbolic_mappings.TouchedCharacters.{have_context}
use Rattle.icu_rule_steps.proofs.symbolic_mappings.roots.have_context.Given as goal

abbrev pub invariant-loop-mapping : goal.invariant-loop-mapping
invariant-loop-mapping l = have_context (map root_mapping (drop l.mapping-index l.mappings)) ≡ have_context (map root_mapping l.mappings)
