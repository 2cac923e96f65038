-- Marks in canonical order (Unicode Standard, "Canonical Ordering Algorithm"), by their combining classes.
use Rattle.std.specs.Prelude.{◌≡◌, ◌<◌, ◌==◌, ℕ, zero, suc, List, [], ◌∷◌, ◌++◌}
use Rattle.std.specs.List.{filter}
use Rattle.ucd_normal.specs.CanonicalCombiningClass.{canonical_combining_class as class_of}
use Rattle.unicode_normalization.specs.Order.{canonical_order}

-- the characters of a combining class, in the order in which they stand (Unicode Standard, D104)
abbrev pub of_class : ℕ → List ℕ → List ℕ
of_class k = filter (λ c. class_of c == k)

-- the characters of the classes below this one, class by class
abbrev pub by_classes : ℕ → List ℕ → List ℕ
by_classes zero cs = []
by_classes (suc k) cs = by_classes k cs ++ of_class k cs

-- all of them are marks, characters of another class than 0, and their classes are below this one
abbrev pub AreMarks : ℕ → List ℕ → Type 0
AreMarks k [] = Unit {0}
AreMarks k (c ∷ cs) = (0 < class_of c) × (class_of c < k) × AreMarks k cs

-- marks in canonical order are those of each class in turn (Unicode Standard, "Canonical Ordering Algorithm")
abbrev pub MarksGoByClasses : Type 0
MarksGoByClasses = (k : ℕ) (cs : List ℕ) → AreMarks k cs → canonical_order cs ≡ by_classes k cs
