-- What is left of the two lists comes after a common beginning.
use Rattle.std.proofs.Common.{length}
use Rattle.icu_text_encodings.specs.inner.ListBeginnings.{HaveBeginning}
use Rattle.icu_text_encodings.proofs.common_units.common_bytes_and_units.Given as goal

abbrev pub invariant-units : goal.invariant-units
invariant-units l = HaveBeginning l.left l.right l.left_rest l.right_rest

abbrev pub decreases-units : goal.decreases-units
decreases-units l = length l.left_rest
