use Rattle.std.proofs.Common.{◌≡◌, ◌+◌, ◌<◌, ℕ, List, length, take, rules, arith, sym, ap, ◌∙◌}
use Rattle.std.proofs.lemmas.Grind.{common_steps}
use Rattle.icu_rule_meaning.specs.TailoredMappings.{SymbolicMapping}
use Rattle.icu_rule_steps.specs.symbolic_mappings.StoredMappings.{symbolic_mappings}
use Rattle.icu_rule_steps.specs.symbolic_mappings.inner.Tiers.{lent_mappings, with_tier}
use Rattle.icu_rule_steps.proofs.symbolic_mappings.TierLemmas.{first_tier, tier_more}
use Rattle.icu_rule_steps.proofs.symbolic_mappings.behind.mappings_behind.Goals as goal

pub loop-count-init : goal.loop-count-init
loop-count-init c = c.in_ok-found.ensures ∙ sym (first_tier (symbolic_mappings c.args.mappings.now))

pub loop-count-preserved : goal.loop-count-preserved
loop-count-preserved c =
    let mappings : List SymbolicMapping = symbolic_mappings c.args.mappings.now in
    let before : List ℕ = c.args.before.now in
    let i : ℕ = c.loop-count.count in
    let within : i < length before = c.loop-count-test.true in
    let found : lent_mappings c.in_ok-found-2.found.items ≡ with_tier mappings (take (i + 1) before) (lent_mappings c.loop-count.found.items) =
    first_of (search rules, grind (arith, common_steps)) in
    found ∙ ap (with_tier mappings (take (i + 1) before)) c.loop-count.invariant ∙ sym (tier_more mappings before i within)
