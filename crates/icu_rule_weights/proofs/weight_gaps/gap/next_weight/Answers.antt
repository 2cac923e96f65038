use Rattle.std.proofs.Common.{ℕ, List, Option, None, MatchOption, sym, subst, arith}
use Rattle.icu_rule_weights.specs.weight_gaps.GapWeights.{byte_ranges, IsLeastAbove, IsNextAbove, IsNextIn, HasNoNext}
use Rattle.icu_rule_weights.specs.declared.weight_gaps.byte_range.ByteRange.{ByteRange}
use Rattle.icu_rule_weights.proofs.weight_gaps.GapLemmas.{no_next_over, no_next_above}
use Rattle.icu_rule_weights.proofs.weight_gaps.gap.next_weight.Goals as goal

pub returns-in_err-next : goal.returns-in_err-next
returns-in_err-next c =
    let seconds = c.args.form.seconds in
    let none = subst (λ (rs : List ByteRange). IsLeastAbove rs c.args.last None) c.byte_ranges-ranges.ensures.value c.in_err-next.ensures in
    subst (λ (r : Option ℕ). MatchOption r (HasNoNext seconds c.args.length c.args.last c.args.high) (IsNextIn seconds c.args.length c.args.last c.args.high))
    (sym c.from_residual.ensures) (no_next_above seconds c.args.length c.args.last c.args.high none)

pub returns-else-last_begun-high : goal.returns-else-last_begun-high
returns-else-last_begun-high c =
    let next = subst (λ (rs : List ByteRange). IsNextAbove rs c.args.last c.in_ok-next.next) c.byte_ranges-ranges.ensures.value c.in_ok-next.ensures in
    no_next_over c.args.form c.args.length c.args.last c.args.high c.in_ok-next.next c.requires.long c.requires.short (omega arith) next
    (λ clear. let over = (c.last_begun.ensures.clear c.args.high (omega arith)).0 clear in omega (arith, over))
