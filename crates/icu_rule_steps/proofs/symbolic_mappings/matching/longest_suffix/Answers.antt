use Rattle.std.proofs.Common.{◌+◌, ℕ, List, drop, sym, ap, ◌∙◌}
use Rattle.icu_rule_meaning.specs.TailoredMappings.{longest_suffix}
use Rattle.icu_rule_steps.specs.symbolic_mappings.inner.Tiers.{lent_mappings, maybe_lent}
use Rattle.icu_rule_steps.proofs.symbolic_mappings.TierLemmas.{longest_turn, longest_end}
use Rattle.icu_rule_steps.proofs.symbolic_mappings.matching.longest_suffix.Goals as goal

pub loop-mapping-preserved : goal.loop-mapping-preserved
loop-mapping-preserved c =
    let text : List ℕ = c.args.text.now in
    let i : ℕ = c.loop-mapping.mapping-index in
    ap (λ b. longest_suffix b (lent_mappings (drop (i + 1) c.args.mappings.now)) text) c.longer_mapping-best.ensures
    ∙ sym (longest_turn (maybe_lent c.loop-mapping.best) c.args.mappings.now i c.mapping-item.result text c.loop-mapping-test.true c.mapping-item.is)
    ∙ c.loop-mapping.invariant

pub returns : goal.returns
returns c =
    sym (longest_end (maybe_lent c.loop-mapping.best) c.args.mappings.now c.loop-mapping.mapping-index c.args.text.now c.loop-mapping-test.false)
    ∙ c.loop-mapping.invariant
