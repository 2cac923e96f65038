-- What is left of the marks that a text begins with, while they are read class by class.
use Rattle.std.specs.Prelude.{◌≡◌, ◌<◌, ◌-◌, ℕ, zero, suc, List, [], ◌++◌, Option, Some, None}
use Rattle.unicode_normalization.specs.Order.{canonical_order}
use Rattle.icu_text_decomposition.specs.MarkClasses.{of_class}
use Rattle.icu_text_decomposition.specs.inner.FrontMarks.{front_marks, past_marks}

-- the marks of so many classes from this one on, class by class
unfoldable pub lists_from : (ℕ → List ℕ) → ℕ → ℕ → List ℕ
lists_from left zero k = []
lists_from left (suc j) k = left k ++ lists_from left j (suc k)

-- a class that comes next, or the number of all classes where none does
abbrev pub class_limit : Option ℕ → ℕ
class_limit None = 256
class_limit (Some k) = k

-- The text begins with a run of marks, and the marks of a class are read up to a place in it. No mark before that place
-- has a class between that one and the next.
pub record IsPass (text at : List ℕ) (class : ℕ) (next : Option ℕ) : Type 0 where
  pub ends : past_marks at ≡ past_marks text
  pub above : class < class_limit next
  pub passed : (k : ℕ) → class < k → k < class_limit next → of_class k (front_marks text) ≡ of_class k (front_marks at)

-- what is left: of this class those from the place on, then those of the classes above it, and then what stands after
-- the run
unfoldable pub left_of_pass : List ℕ → List ℕ → ℕ → List ℕ
left_of_pass text at class =
    of_class class (front_marks at) ++ (lists_from (λ k. of_class k (front_marks text)) (255 - class) (suc class) ++ canonical_order (past_marks text))
