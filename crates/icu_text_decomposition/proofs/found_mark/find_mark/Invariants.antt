use Rattle.std.proofs.Common.{◌≡◌, length}
use Rattle.icu_text_decomposition.specs.MarkClasses.{of_class}
use Rattle.icu_text_decomposition.specs.inner.FrontMarks.{front_marks}
use Rattle.icu_text_decomposition.specs.inner.Parts.{parts_left}
use Rattle.icu_text_decomposition.proofs.found_mark.find_mark.Given as goal

-- no mark of the class was passed
abbrev pub invariant-marks : goal.invariant-marks
invariant-marks g l = of_class l.class (front_marks (parts_left g.T.EncodedText.text l.fn.from)) ≡ of_class l.class (front_marks (parts_left g.T.EncodedText.text l.at))

abbrev pub decreases-marks : goal.decreases-marks
decreases-marks g l = length (parts_left g.T.EncodedText.text l.at)
