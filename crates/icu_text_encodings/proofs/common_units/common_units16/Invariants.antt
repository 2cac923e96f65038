-- What is left of the two lists comes after a common beginning.
use Rattle.std.proofs.Common.{length}
use Rattle.icu_text_encodings.specs.inner.ListBeginnings.{HaveBeginning}
use Rattle.icu_text_encodings.proofs.common_units.common_units16.Given as goal

abbrev pub invariant-words : goal.invariant-words
invariant-words l = HaveBeginning l.left l.right l.left_rest l.right_rest

abbrev pub decreases-words : goal.decreases-words
decreases-words l = length l.left_rest

abbrev pub invariant-units : goal.invariant-units
invariant-units l = HaveBeginning l.left l.right l.left_rest l.right_rest

abbrev pub decreases-units : goal.decreases-units
decreases-units l = length l.left_rest
