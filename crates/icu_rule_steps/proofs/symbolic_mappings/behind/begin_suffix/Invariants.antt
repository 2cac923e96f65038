use Rattle.std.proofs.Common.{◌≡◌, drop}
use Rattle.icu_rule_meaning.specs.TailoredMappings.{begin_suffix}
use Rattle.icu_rule_steps.specs.symbolic_mappings.StoredMappings.{symbolic_mapping}
use Rattle.icu_rule_steps.specs.symbolic_mappings.inner.Tiers.{lent_mappings}
use Rattle.icu_rule_steps.proofs.symbolic_mappings.behind.begin_suffix.Given as goal

abbrev pub invariant-loop-own : goal.invariant-loop-own
invariant-loop-own l = begin_suffix (lent_mappings (drop l.own-index l.mappings)) (symbolic_mapping l.mapping) ≡ begin_suffix (lent_mappings l.mappings) (symbolic_mapping l.mapping)
