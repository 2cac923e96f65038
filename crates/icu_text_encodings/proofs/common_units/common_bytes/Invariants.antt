-- What is left of the two lists comes after a common beginning.
use Rattle.std.proofs.Common.{length}
use Rattle.icu_text_encodings.specs.inner.ListBeginnings.{HaveBeginning}
use Rattle.icu_text_encodings.proofs.common_units.common_bytes.Given as goal

abbrev pub invariant-bytes : goal.invariant-bytes
invariant-bytes l = HaveBeginning l.left l.right l.left_rest l.right_rest

abbrev pub decreases-bytes : goal.decreases-bytes
decreases-bytes l = length l.left_rest
