-- What is left of the two lists comes after a common beginning.
use Rattle.std.proofs.Common.{length}
use Rattle.icu_text_encodings.specs.inner.ListBeginnings.{HaveBeginning}
use Rattle.icu_text_encodings.proofs.common_units.after_common_blocks.Given as goal

abbrev pub invariant-wide : goal.invariant-wide
invariant-wide l = HaveBeginning l.left l.right l.left_rest l.right_rest

abbrev pub decreases-wide : goal.decreases-wide
decreases-wide l = length l.left_rest
