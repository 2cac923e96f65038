use Rattle.std.proofs.Common.{ℕ, ◌<◌, All, length}
use Rattle.icu_element_cursor.specs.Cursors.{cursor_reading}
use Rattle.icu_element_cursor.specs.inner.NumberElements.{IsDigitRun, few_digits}
use Rattle.icu_element_cursor.proofs.digit_run.push_run.Given as goal

-- the digits that were read are those of the text up to the rest
abbrev pub invariant-digits : goal.invariant-digits
invariant-digits g l = record {
  decimal : All (λ (d : ℕ). d < 10) (few_digits l.digits);
  run : IsDigitRun (cursor_reading l.tables) (g.T.EncodedText.text l.fn.text) (g.T.EncodedText.text l.rest) (few_digits l.fn.digits) (few_digits l.digits);
}

abbrev pub decreases-digits : goal.decreases-digits
decreases-digits g l = length (g.T.EncodedText.text l.rest)
