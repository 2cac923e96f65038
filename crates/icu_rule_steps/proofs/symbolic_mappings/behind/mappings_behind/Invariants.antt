use Rattle.std.proofs.Common.{◌≡◌, take}
use Rattle.icu_rule_meaning.specs.TailoredMappings.{beginnings, mappings_behind}
use Rattle.icu_rule_steps.specs.symbolic_mappings.StoredMappings.{symbolic_mappings}
use Rattle.icu_rule_steps.specs.symbolic_mappings.inner.Tiers.{lent_mappings}
use Rattle.icu_rule_steps.proofs.symbolic_mappings.behind.mappings_behind.Given as goal

abbrev pub invariant-loop-count : goal.invariant-loop-count
invariant-loop-count l = lent_mappings l.found.items ≡ mappings_behind (symbolic_mappings l.mappings) (beginnings (take l.count l.before))
