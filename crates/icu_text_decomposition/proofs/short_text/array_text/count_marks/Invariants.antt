use Rattle.std.proofs.Common.{◌≡◌, ◌≤◌, ◌+◌, ◌-◌, length, drop}
use Rattle.icu_text_decomposition.specs.UnreadTexts.{marks_up_to}
use Rattle.icu_text_decomposition.proofs.short_text.array_text.count_marks.Given as goal

abbrev pub invariant-marks : goal.invariant-marks
invariant-marks l = (l.count ≤ length l.chars) × (length (marks_up_to l.class l.chars) ≡ l.count + length (marks_up_to l.class (drop l.count l.chars)))

abbrev pub decreases-marks : goal.decreases-marks
decreases-marks l = length l.chars - l.count
