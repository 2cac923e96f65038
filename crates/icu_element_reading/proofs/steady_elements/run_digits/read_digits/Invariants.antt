use Rattle.std.proofs.Common.{◌≡◌, ◌≤◌, [], ◌∷◌, length}
use Rattle.icu_element_reading.specs.LastChars.{recent_chars}
use Rattle.icu_element_reading.specs.Reading.{reading_of}
use Rattle.icu_element_reading.specs.steady_elements.inner.RunDigits.{room_digits, started_elements}
use Rattle.icu_element_reading.proofs.steady_elements.run_digits.read_digits.Given as goal

-- the elements of the digits that were read and of those that come next are those of the run
abbrev pub invariant-run : goal.invariant-run
invariant-run g l = record {
  elements :
      started_elements (reading_of l.reading) l.lead (room_digits l.digits) (recent_chars l.at.recent) (g.X.TextForMatches.unread l.at.text)
      ≡ started_elements (reading_of l.reading) l.lead (l.first ∷ []) (recent_chars l.fn.at.recent) (g.X.TextForMatches.unread l.fn.at.text);
  fewer : length (g.X.TextForMatches.unread l.at.text) ≤ length (g.X.TextForMatches.unread l.fn.at.text);
}

abbrev pub decreases-run : goal.decreases-run
decreases-run g l = length (g.X.TextForMatches.unread l.at.text)
