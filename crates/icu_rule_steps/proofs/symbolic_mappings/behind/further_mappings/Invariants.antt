use Rattle.std.proofs.Common.{◌≡◌, take, not}
use Rattle.std.specs.Prelude.{filter}
use Rattle.icu_rule_meaning.specs.TailoredMappings.{begin_suffix}
use Rattle.icu_rule_steps.specs.symbolic_mappings.inner.Tiers.{lent_mappings}
use Rattle.icu_rule_steps.proofs.symbolic_mappings.behind.further_mappings.Given as goal

abbrev pub invariant-loop-mapping : goal.invariant-loop-mapping
invariant-loop-mapping l = lent_mappings l.further.items ≡ filter (λ m. not (begin_suffix (lent_mappings l.own) m)) (lent_mappings (take l.mapping-index l.shorter))
