use Rattle.std.proofs.Common.{◌≡◌, ◌<◌, ◌≤◌, ◌∷◌, [], ℕ, List, length}
use Rattle.icu_order_levels.specs.Numbers.{value_of}
use Rattle.icu_element_cursor.specs.Cursors.{cursor_reading}
use Rattle.icu_element_cursor.specs.inner.NumberElements.{IsDigitRun}
use Rattle.icu_element_cursor.proofs.digit_run.take_few.Given as goal

-- the value is that of the digits of the text up to the rest
abbrev pub invariant-digits : goal.invariant-digits
invariant-digits g l = record {
  run : (ds : List ℕ) × IsDigitRun (cursor_reading l.tables) (g.T.EncodedText.text l.fn.text) (g.T.EncodedText.text l.rest) (l.first ∷ []) ds × (value_of ds ≡ l.value);
  few : l.value < 1042490;
  shorter : length (g.T.EncodedText.text l.rest) ≤ length (g.T.EncodedText.text l.fn.text);
}

abbrev pub decreases-digits : goal.decreases-digits
decreases-digits g l = length (g.T.EncodedText.text l.rest)
