-- A text whose run of marks at the front is read by a place for each class.
use Rattle.std.specs.Prelude.{◌≡◌, ◌≤◌, ◌<◌, ℕ, List, [], ◌++◌, None}
use Rattle.icu_text_decomposition.specs.declared.run_text.RunText.{RunText}
use Rattle.icu_text_decomposition.specs.inner.ClassPlaces.{marks_from}
use Rattle.icu_text_decomposition.specs.inner.FrontMarks.{front_marks}
use Rattle.icu_text_decomposition.specs.inner.OrderedParts.{IsPlace, order_left}
use Rattle.icu_text_decomposition.specs.inner.Parts.{parts_left}

-- what is still to be read: of the run, and then what stands behind it
abbrev pub run_text_left : {T : Type 0} → (T → List ℕ) → RunText T → List ℕ
run_text_left text t = marks_from text t.places t.class ++ order_left text t.rest

-- the run ends at the place behind it, where one is read
pub record EndsRun {T : Type 0} (text : T → List ℕ) (t : RunText T) : Type 0 where
  pub no_pass : t.rest.pass ≡ None
  pub no_mark : front_marks (parts_left text t.rest.parts) ≡ []

-- the places are as they should be
pub record IsRunText {T : Type 0} (text : T → List ℕ) (t : RunText T) : Type 0 where
  pub limit : t.class ≤ 256
  pub rest : IsPlace text t.rest
  pub ends : t.class < 256 → EndsRun text t
