use Rattle.std.proofs.Common.{◌≡◌, take}
use Rattle.std.specs.Prelude.{filter}
use Rattle.icu_rule_meaning.specs.TailoredMappings.{stands_after_prefix}
use Rattle.icu_rule_steps.specs.symbolic_mappings.StoredMappings.{symbolic_mappings}
use Rattle.icu_rule_steps.specs.symbolic_mappings.inner.Tiers.{lent_mappings}
use Rattle.icu_rule_steps.proofs.symbolic_mappings.behind.of_prefix.Given as goal

abbrev pub invariant-loop-mapping : goal.invariant-loop-mapping
invariant-loop-mapping l = lent_mappings l.own.items ≡ filter (stands_after_prefix l.prefix) (symbolic_mappings (take l.mapping-index l.mappings))
