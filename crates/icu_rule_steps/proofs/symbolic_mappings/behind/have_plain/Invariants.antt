use Rattle.std.proofs.Common.{◌≡◌, [], drop, bytes_eq}
use Rattle.std.specs.List.{list_any}
use Rattle.icu_rule_steps.specs.symbolic_mappings.inner.Tiers.{lent_mappings}
use Rattle.icu_rule_steps.proofs.symbolic_mappings.behind.have_plain.Given as goal

abbrev pub invariant-loop-mapping : goal.invariant-loop-mapping
invariant-loop-mapping l = list_any (λ m. bytes_eq m.suffix []) (lent_mappings (drop l.mapping-index l.mappings)) ≡ list_any (λ m. bytes_eq m.suffix []) (lent_mappings l.mappings)
