use Rattle.std.proofs.Common.{◌≡◌, ◌∷◌, ℕ, true, length}
use Rattle.ucd_normal.specs.CanonicalCombiningClass.{canonical_combining_class as class_of}
use Rattle.unicode_normalization.specs.Order.{is_ordered}
use Rattle.icu_text_decomposition.specs.inner.FrontMarks.{front_marks}
use Rattle.icu_text_decomposition.specs.inner.Parts.{parts_left}
use Rattle.icu_text_decomposition.proofs.in_order.are_in_order.Given as goal

-- where the rest is in order behind marks of the last class, so is the whole
abbrev pub invariant-marks : goal.invariant-marks
invariant-marks g l = ((c : ℕ) → class_of c ≡ l.class → is_ordered (c ∷ front_marks (parts_left g.T.EncodedText.text l.rest)) ≡ true)
    → is_ordered (l.fn.mark ∷ front_marks (parts_left g.T.EncodedText.text l.fn.after)) ≡ true

abbrev pub decreases-marks : goal.decreases-marks
decreases-marks g l = length (parts_left g.T.EncodedText.text l.rest)
