-- A text that is still to be read, and a place ahead.
use Rattle.std.specs.Prelude.{◌≡◌, ◌≤◌, ◌-◌, ℕ, suc, List, ◌++◌, take, length, Option, Some, None}
use Rattle.std.specs.Option.{ForSome}
use Rattle.icu_text_decomposition.specs.declared.ordered_parts.OrderedParts.{OrderedParts}
use Rattle.icu_text_decomposition.specs.declared.run_text.RunText.{RunText}
use Rattle.icu_text_decomposition.specs.declared.taking.Look.{Look}
use Rattle.icu_text_decomposition.specs.declared.taking.Look.TheVariants.{Class, Mark, Rest}
use Rattle.icu_text_decomposition.specs.declared.taking.Taking.{Taking}
use Rattle.icu_text_decomposition.specs.MarkClasses.{of_class}
use Rattle.icu_text_decomposition.specs.inner.ClassPlaces.{marks_from}
use Rattle.icu_text_decomposition.specs.inner.FrontMarks.{front_marks}
use Rattle.icu_text_decomposition.specs.inner.OrderedParts.{IsPlace, order_left}
use Rattle.icu_text_decomposition.specs.inner.Parts.{parts_left}
use Rattle.icu_text_decomposition.specs.inner.RunTexts.{IsRunText, run_text_left}

-- the characters that are still to be read
abbrev pub unread_of : {T : Type 0} → (T → List ℕ) → Taking T → List ℕ
unread_of text t = run_text_left text t.text

-- those that follow a place
abbrev pub left_behind : {T : Type 0} → (T → List ℕ) → RunText T → Look T → List ℕ
left_behind text t (Class k) = marks_from text t.places k ++ order_left text t.rest
left_behind text t (Mark k at) = of_class k (front_marks (parts_left text at)) ++ (marks_from text t.places (suc k) ++ order_left text t.rest)
left_behind text t (Rest place) = order_left text place

-- the characters that were not passed over
abbrev pub ahead_of : {T : Type 0} → (T → List ℕ) → Taking T → List ℕ
ahead_of text t = left_behind text t.text t.look

-- how many characters were passed over
abbrev pub passed_of : {T : Type 0} → (T → List ℕ) → Taking T → ℕ
passed_of text t = length (unread_of text t) - length (ahead_of text t)

-- the class from which on all marks of the run follow the place
abbrev pub look_class : {T : Type 0} → Look T → ℕ
look_class (Class k) = k
look_class (Mark k at) = suc k
look_class (Rest place) = 256

-- the place behind the run, where it is one
abbrev pub look_rest : {T : Type 0} → Look T → Option (OrderedParts T)
look_rest (Class k) = None
look_rest (Mark k at) = None
look_rest (Rest place) = Some place

-- the place is as it should be
pub record IsLook {T : Type 0} (text : T → List ℕ) (look : Look T) : Type 0 where
  pub class : look_class look ≤ 256
  pub rest : ForSome (look_rest look) (IsPlace text)

-- the second list is an end of the first
abbrev pub EndsInList : List ℕ → List ℕ → Type 0
EndsInList xs ys = xs ≡ take (length xs - length ys) xs ++ ys

-- both places are as they should be, and what follows the one ahead is an end of what is still to be read
pub record IsTaking {T : Type 0} (text : T → List ℕ) (t : Taking T) : Type 0 where
  pub text_is : IsRunText text t.text
  pub look_is : IsLook text t.look
  pub behind : EndsInList (unread_of text t) (ahead_of text t)
