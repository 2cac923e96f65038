-- The class of the mark that a list begins with.
use Rattle.std.specs.Prelude.{◌≤◌, ◌⊎◌, ℕ, List, [], ◌∷◌}
use Rattle.ucd_normal.specs.CanonicalCombiningClass.{canonical_combining_class as class_of}

-- the list doesn't begin with a mark whose class is below this one
unfoldable pub BeginsAbove : ℕ → List ℕ → Type 0
BeginsAbove k [] = Unit {0}
BeginsAbove k (c ∷ cs) = (class_of c ≤ 0) ⊎ (k ≤ class_of c)
