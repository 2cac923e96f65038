-- Marks of one combining class.
use Rattle.std.specs.Prelude.{◌==◌, ℕ, Bool, List}
use Rattle.std.specs.List.{list_all}
use Rattle.ucd_normal.specs.CanonicalCombiningClass.{canonical_combining_class as class_of}

-- each of these characters has this combining class
abbrev pub are_of_class : ℕ → List ℕ → Bool
are_of_class k cs = list_all (λ c. class_of c == k) cs
