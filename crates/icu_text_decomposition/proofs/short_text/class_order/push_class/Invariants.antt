use Rattle.std.proofs.Common.{◌≡◌, ◌≤◌, ◌-◌, ◌++◌, length, drop}
use Rattle.icu_text_decomposition.specs.inner.MarksLeft.{IsPass, left_of_pass}
use Rattle.icu_text_decomposition.specs.short_text.ArrayTexts.{array_unread}
use Rattle.icu_text_decomposition.proofs.short_text.class_order.push_class.Given as goal

-- of the marks up to the place those of the class are appended
abbrev pub invariant-marks : goal.invariant-marks
invariant-marks g l = record {
  inside : l.count ≤ length l.chars;
  pass : IsPass l.chars (drop l.count l.chars) l.class l.next;
  left : array_unread l.text ++ left_of_pass l.chars (drop l.count l.chars) l.class ≡ array_unread l.fn.text ++ left_of_pass l.chars l.chars l.class;
}

abbrev pub decreases-marks : goal.decreases-marks
decreases-marks g l = length l.chars - l.count
