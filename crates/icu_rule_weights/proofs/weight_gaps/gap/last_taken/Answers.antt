use Rattle.std.proofs.Common.{ℕ, List, ◌≡◌, ◌+◌, ◌-◌, length, get_or, arith}
use Rattle.std.proofs.lemmas.Bool.Decides.{nat_tests}
use Rattle.std.proofs.lemmas.List.{get_or_default}
use Rattle.icu_rule_weights.proofs.weight_gaps.GapLemmas.{past_last}
use Rattle.icu_rule_weights.proofs.weight_gaps.gap.last_taken.Goals as goal

pub returns-else-is_empty-clause-past : goal.returns-else-is_empty-clause-past
returns-else-is_empty-clause-past c =
    let ws : List ℕ = c.args.weights.now in
    let i : ℕ = length ws - 1 in
    let w : ℕ = get_or ws i 0 in
    let last : i + 1 ≡ length ws = grind (arith, nat_tests) in
    past_last c.args.gap.form c.args.gap.low c.args.gap.high ws i w c.last_begun-else-is_empty.result c.requires last
    (get_or_default ws i 0 w (omega arith)) c.last_begun-else-is_empty.ensures.from c.last_begun-else-is_empty.ensures.clear
