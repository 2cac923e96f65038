use Rattle.std.proofs.Common.{◌∙◌, inl, inr}
use Rattle.std.proofs.lemmas.Bool.{cases_lt}
use Rattle.icu_text_decomposition.specs.inner.ClassNumbers.{class_number}
use Rattle.icu_text_decomposition.proofs.ClassPlaceLemmas.{used_place, unused_place}
use Rattle.icu_text_decomposition.proofs.class_places.ClassPlaces.new.Goals as goal

pub returns : goal.returns
returns g c = λ k.
    elim (cases_lt (class_number k) 55) [
      | inl used ↦ used_place _ k used ∙ c.filled.ensures (class_number k)
      | inr unused ↦ unused_place _ k unused
    ]
