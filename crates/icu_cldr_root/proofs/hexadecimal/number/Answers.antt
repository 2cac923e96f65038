use Rattle.std.proofs.Common.{◌<◌, arith, sym, ◌∙◌}
use Rattle.icu_cldr_root.proofs.HexDigitLemmas.{digit_more, room, number_more, number_stops, number_end}
use Rattle.icu_cldr_root.proofs.hexadecimal.number.Goals as goal

pub overflow_mul-number : goal.overflow_mul-number
overflow_mul-number c =
    let small : c.loop-byte.number < 1048576 = room c.loop-byte.byte-index c.loop-byte.number (omega arith) c.loop-byte.invariant.bound in
    omega arith

pub returns-in_err-digit_of-clause-number : goal.returns-in_err-digit_of-clause-number
returns-in_err-digit_of-clause-number c =
    let stops = number_stops c.loop-byte.number c.args.word.now c.loop-byte.byte-index (omega arith) (sym c.digit_of.ensures.digit ∙ c.in_err-digit_of.was) in
    grind (arith, stops)

pub loop-byte-preserved : goal.loop-byte-preserved
loop-byte-preserved c =
    let more = number_more c.loop-byte.number c.args.word.now c.loop-byte.byte-index c.in_ok-digit_of.field-0 (omega arith)
    (sym c.digit_of.ensures.digit ∙ c.in_ok-digit_of.was) in
    record {
      number = grind (arith, more);
      bound = grind (arith, digit_more);
    }

pub returns-clause-number : goal.returns-clause-number
returns-clause-number c =
    sym (number_end c.loop-byte.number c.args.word.now c.loop-byte.byte-index (omega arith)) ∙ c.loop-byte.invariant.number
