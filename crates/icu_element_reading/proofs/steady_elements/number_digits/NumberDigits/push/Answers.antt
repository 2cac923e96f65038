use Rattle.std.proofs.Common.{◌≡◌, ◌<◌, length, arith, rules}
use Rattle.icu_element_reading.proofs.steady_elements.NumberDigitLemmas.{decimal_pushed, first_pushed}
use Rattle.icu_element_reading.proofs.steady_elements.number_digits.NumberDigits.push.Goals as goal
use Rattle.icu_element_reading.proofs.steady_elements.number_digits.NumberDigits.push.Goals.{else-len-eq0-via-then-len-eq0+else-digit-eq0, else-len-eq0-via-else-len-eq0}

pub invariant_of-self : goal.invariant_of-self
invariant_of-self c =
    let inside : c.args.self.now.len < length c.args.self.now.digits = search rules in
    let some : c.args.self.now.len ≡ 0 → c.args.digit ≡ 0 → ⊥ =
    elim c.else-len-eq0.branch [
      | else-len-eq0-via-then-len-eq0+else-digit-eq0 w ↦ λ n d. w.if-digit-eq0.false d
      | else-len-eq0-via-else-len-eq0 w ↦ λ n d. w.if-len-eq0.false n
    ] in
    record {
      inside = omega arith;
      decimal = decimal_pushed c.args.self.now.digits c.args.self.now.len c.args.digit inside c.args.self.now.decimal c.requires.decimal;
      first = first_pushed c.args.self.now.digits c.args.self.now.len c.args.digit inside c.args.self.now.first some;
    }
