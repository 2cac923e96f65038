use Rattle.std.proofs.Common.{◌≡◌, None, refl, sym, ◌∙◌, rules}
use Rattle.icu_element_reading.specs.LastChars.{recent_chars}
use Rattle.icu_element_reading.specs.Reading.{element_tables}
use Rattle.icu_element_reading.proofs.steady_elements.RunDigitLemmas.{no_digit_left}
use Rattle.icu_element_reading.proofs.steady_elements.run_digits.take_digit.Goals as goal

pub returns-in_err-digit : goal.returns-in_err-digit
returns-in_err-digit g c =
    let none : c.from_residual-in_err-digit.result ≡ None = search rules in
    rw none
    (no_digit_left (element_tables c.args.tables) (recent_chars c.args.at.now.recent) (g.X.TextForMatches.unread c.args.at.now.text) _ _ c.in_ok-c.c _
    (sym c.peek.ensures.first ∙ c.in_ok-c.was) (sym c.digit.ensures.value ∙ c.in_err-digit.was) c.peek.ensures.unread refl)
