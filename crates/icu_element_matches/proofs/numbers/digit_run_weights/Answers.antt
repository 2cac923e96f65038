use Rattle.std.proofs.Common.{◌<◌, length, rules, ◌∙◌}
use Rattle.icu_element_matches.proofs.numbers.DigitRunLemmas.{number_decimal, number_first, number_fits, rest_decimal, rest_shorter, weights_more}
use Rattle.icu_element_matches.proofs.numbers.digit_run_weights.Goals as goal

pub push_number-requires-clause-decimal : goal.push_number-requires-clause-decimal
push_number-requires-clause-decimal c =
    number_decimal c.loop-left.left.now c.without_first_zeros.result.now c.without_first_zeros.ensures
    c.first_number.result.0.now c.first_number.ensures.number c.loop-left.invariant.1

pub push_number-requires-clause-first : goal.push_number-requires-clause-first
push_number-requires-clause-first c =
    number_first c.loop-left.left.now c.without_first_zeros.result.now c.without_first_zeros.ensures
    c.first_number.result.0.now c.first_number.ensures.number

pub push_number-requires-clause-fits : goal.push_number-requires-clause-fits
push_number-requires-clause-fits c =
    number_fits c.loop-left.left.now c.without_first_zeros.result.now c.without_first_zeros.ensures
    c.first_number.result.0.now c.first_number.ensures.number

pub loop-left-smaller : goal.loop-left-smaller
loop-left-smaller c =
    let some : 0 < length c.loop-left.left.now = search rules in
    rest_shorter c.loop-left.left.now c.without_first_zeros.result.now c.without_first_zeros.ensures
    c.first_number.result.1.now c.first_number.ensures.rest some

pub loop-left-preserved : goal.loop-left-preserved
loop-left-preserved c =
    let some : 0 < length c.loop-left.left.now = search rules in (
      weights_more c.loop-left.left.now c.without_first_zeros.result.now c.without_first_zeros.ensures c.args.lead
          c.first_number.result.0.now c.first_number.result.1.now c.loop-left.weights.items c.push_number.new.weights.items
          c.first_number.ensures.number c.first_number.ensures.rest some c.in_ok-push_number.ensures
          ∙ c.loop-left.invariant.0,
      rest_decimal c.loop-left.left.now c.without_first_zeros.result.now c.without_first_zeros.ensures
          c.first_number.result.1.now c.first_number.ensures.rest c.loop-left.invariant.1,
    )
