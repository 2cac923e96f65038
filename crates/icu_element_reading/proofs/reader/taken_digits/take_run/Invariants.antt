use Rattle.std.proofs.Common.{ℕ, ◌<◌, All, length}
use Rattle.icu_element_reading.specs.Reading.{element_tables}
use Rattle.icu_element_reading.specs.inner.Positions.{unread_at}
use Rattle.icu_element_reading.proofs.TakenDigitLemmas.{ComesTo}
use Rattle.icu_element_reading.proofs.reader.taken_digits.take_run.Given as goal

abbrev pub invariant-loop-digit : goal.invariant-loop-digit
invariant-loop-digit l = record {
  decimal : All (λ (d : ℕ). d < 10) l.digits.items;
  comes : ComesTo (element_tables l.tables) l.at l.digits.items l.fn.at l.fn.digits.items;
}

abbrev pub decreases-loop-digit : goal.decreases-loop-digit
decreases-loop-digit l = length (unread_at l.at)
