use Rattle.std.proofs.Common.{length, arith}
use Rattle.icu_rule_weights.proofs.weight_gaps.ByteLemmas.{next_least_of_all, next_behind_of_all, next_after_of_all, divisor}
use Rattle.icu_rule_weights.proofs.weight_gaps.least_above.+least_above.Goals as goal

pub nonzero_div-byte : goal.nonzero_div-byte
nonzero_div-byte t c = divisor c.place_of-place.result (length c.in_ok-range.others.now) c.place_of-place.ensures

pub nonzero_rem-bound : goal.nonzero_rem-bound
nonzero_rem-bound t c = divisor c.place_of-place.result (length c.in_ok-range.others.now) c.place_of-place.ensures

pub returns-in-Some : goal.returns-in-Some
returns-in-Some t c =
    next_behind_of_all c.args.ranges.now c.in_ok-range.range c.in_ok-range.others.now c.place_of-place.result c.args.bound
    c.in-Some.rest c.joined-in-Some.result c.in_ok-range.ensures c.place_of-place.ensures c.in-Some.ensures (omega arith)
    (omega arith) c.joined-in-Some.ensures.value c.joined-in-Some.ensures.bound

pub returns : goal.returns
returns t c =
    next_after_of_all c.args.ranges.now c.in_ok-range.range c.in_ok-range.others.now c.place_of-place.result c.args.bound
    c.least_of-2.result c.joined-2.result c.in_ok-range.ensures c.place_of-place.ensures c.in_default.ensures
    c.least_of-2.ensures (omega arith) (omega arith) c.joined-2.ensures.value c.joined-2.ensures.bound

pub returns-then-byte-from-2 : goal.returns-then-byte-from-2
returns-then-byte-from-2 t c =
    next_least_of_all c.args.ranges.now c.in_ok-range.range c.in_ok-range.others.now c.place_of-place.result c.args.bound
    c.least_of.result c.joined.result c.in_ok-range.ensures c.place_of-place.ensures c.requires.ordered c.least_of.ensures
    (omega arith) c.joined.ensures.value c.joined.ensures.bound
