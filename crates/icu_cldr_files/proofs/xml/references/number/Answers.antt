use Rattle.std.proofs.Common.{◌<◌, ◌*◌, ◌^◌, arith, rules, sym, ◌∙◌}
use Rattle.icu_cldr_files.proofs.xml.DigitLemmas.{digit_more, room, number_more, number_stops, number_end}
use Rattle.icu_cldr_files.proofs.xml.references.number.Goals as goal

pub overflow_mul-number : goal.overflow_mul-number
overflow_mul-number c =
    let small = room c.args.base c.loop-byte.byte-index c.loop-byte.number c.requires.base (omega arith) c.loop-byte.invariant.bound in
    omega (arith, small)

pub overflow_add-number : goal.overflow_add-number
overflow_add-number c =
    let small = room c.args.base c.loop-byte.byte-index c.loop-byte.number c.requires.base (omega arith) c.loop-byte.invariant.bound in
    omega (arith, small, c.in_ok-number.ensures.bound)

pub returns-in_err-number : goal.returns-in_err-number
returns-in_err-number c =
    let stops = number_stops c.args.base c.loop-byte.number c.args.digits.now c.loop-byte.byte-index (omega arith) (sym c.digit_in.ensures.digit ∙ c.in_err-number.was) in
    grind (arith, stops)

pub loop-byte-preserved : goal.loop-byte-preserved
loop-byte-preserved c =
    let more = number_more c.args.base c.loop-byte.number c.args.digits.now c.loop-byte.byte-index c.in_ok-number.field-0 (omega arith)
    (sym c.digit_in.ensures.digit ∙ c.in_ok-number.was) in
    record {
      number = sym more ∙ c.loop-byte.invariant.number;
      bound = digit_more c.args.base c.loop-byte.byte-index c.loop-byte.number c.in_ok-number.field-0 c.requires.base c.loop-byte.invariant.bound c.in_ok-number.ensures.bound;
    }

pub returns : goal.returns
returns c =
    sym (number_end c.args.base c.loop-byte.number c.args.digits.now c.loop-byte.byte-index (omega arith)) ∙ c.loop-byte.invariant.number
