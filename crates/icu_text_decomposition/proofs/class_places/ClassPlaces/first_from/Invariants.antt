use Rattle.std.proofs.Common.{◌≡◌, ◌≤◌, ◌-◌}
use Rattle.icu_text_decomposition.specs.inner.ClassPlaces.{marks_from}
use Rattle.icu_text_decomposition.proofs.class_places.ClassPlaces.first_from.Given as goal

-- nothing is left of the classes that were passed
abbrev pub invariant-classes : goal.invariant-classes
invariant-classes g l = record {
  low : l.fn.from ≤ l.class;
  limit : l.class ≤ 256;
  left : marks_from g.T.EncodedText.text l.self l.fn.from ≡ marks_from g.T.EncodedText.text l.self l.class;
}

abbrev pub decreases-classes : goal.decreases-classes
decreases-classes g l = 256 - l.class
