use Rattle.std.proofs.Common.{◌≡◌, drop, None}
use Rattle.icu_rule_meaning.specs.TailoredMappings.{longest_suffix}
use Rattle.icu_rule_steps.specs.symbolic_mappings.inner.Tiers.{lent_mappings, maybe_lent}
use Rattle.icu_rule_steps.proofs.symbolic_mappings.matching.longest_suffix.Given as goal

abbrev pub invariant-loop-mapping : goal.invariant-loop-mapping
invariant-loop-mapping l = longest_suffix (maybe_lent l.best) (lent_mappings (drop l.mapping-index l.mappings)) l.text ≡ longest_suffix None (lent_mappings l.mappings) l.text
