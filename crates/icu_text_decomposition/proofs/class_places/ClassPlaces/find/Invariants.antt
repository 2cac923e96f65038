use Rattle.std.proofs.Common.{◌≡◌, ◌<◌, ℕ, length}
use Rattle.icu_text_decomposition.specs.MarkClasses.{of_class}
use Rattle.icu_text_decomposition.specs.inner.ClassPlaces.{places_of, found_left}
use Rattle.icu_text_decomposition.specs.inner.FrontMarks.{front_marks, past_marks}
use Rattle.icu_text_decomposition.specs.inner.Parts.{parts_left}
use Rattle.icu_text_decomposition.proofs.class_places.ClassPlaces.find.Given as goal

-- each class above that was met has its first place
abbrev pub invariant-marks : goal.invariant-marks
invariant-marks g l = record {
  left : (k : ℕ) → l.above < k → found_left g.T.EncodedText.text k (places_of l.places k) (parts_left g.T.EncodedText.text l.at) ≡ of_class k (front_marks (parts_left g.T.EncodedText.text l.fn.run));
  past : past_marks (parts_left g.T.EncodedText.text l.at) ≡ past_marks (parts_left g.T.EncodedText.text l.fn.run);
}

abbrev pub decreases-marks : goal.decreases-marks
decreases-marks g l = length (parts_left g.T.EncodedText.text l.at)
