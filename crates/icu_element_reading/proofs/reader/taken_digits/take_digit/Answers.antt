use Rattle.std.proofs.Common.{◌≡◌, None, sym, rules, ◌∙◌}
use Rattle.icu_element_reading.specs.Reading.{element_tables}
use Rattle.icu_element_reading.proofs.TakenDigitLemmas.{none_left, no_digit, digit_taken}
use Rattle.icu_element_reading.proofs.reader.taken_digits.take_digit.Goals as goal

pub returns-in_err-c : goal.returns-in_err-c
returns-in_err-c c =
    let none : c.from_residual.result ≡ None = search rules in
    rw none (none_left (element_tables c.args.tables) c.args.at.now (sym c.first.ensures ∙ c.in_err-c.was))

pub returns-in_err-digit : goal.returns-in_err-digit
returns-in_err-digit c =
    let none : c.from_residual-in_err-digit.result ≡ None = search rules in
    rw none (no_digit (element_tables c.args.tables) c.args.at.now c.in_ok-c.c _ (sym c.first.ensures ∙ c.in_ok-c.was) (sym c.digit.ensures.value ∙ c.in_err-digit.was))

pub returns : goal.returns
returns c =
    digit_taken (element_tables c.args.tables) c.args.at.now _ c.in_ok-c.c _ (sym c.first.ensures ∙ c.in_ok-c.was) (sym c.in_ok-digit.was ∙ c.digit.ensures.value)
    c.in_ok-digit.ensures.decimal c.skip.ensures c.push.ensures
