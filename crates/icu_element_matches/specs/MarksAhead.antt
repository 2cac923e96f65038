-- Marks that come next in a text.
use Rattle.std.specs.Prelude.{◌<◌, ℕ, List, [], ◌∷◌}
use Rattle.ucd_normal.specs.CanonicalCombiningClass.{canonical_combining_class as class_of}

-- the text begins with a mark, a character of another class than 0
abbrev pub BeginsWithMark : List ℕ → Type 0
BeginsWithMark [] = ⊥
BeginsWithMark (c ∷ cs) = 0 < class_of c
