-- The order of lists of numbers, and what may stand where two of them part.
use Rattle.std.specs.Prelude.{◌≡◌, ℕ, ◌<◌, List, [], ◌∷◌, ◌++◌}
use Rattle.std.specs.Cmp.Lexicographic.{slice_cmp}
use Rattle.std.specs.Ordering.{nat_cmp}
use Rattle.std.specs.declared.cmp.Ordering.{Ordering}
use Rattle.std.specs.declared.cmp.Ordering.TheVariants.{Less}

-- Dictionary order: the first number that differs decides, and a proper beginning is less. Bytes of keys and
-- weights of a level are compared so (UTS #10, "Compare Sort Keys")
abbrev pub list_order : List ℕ → List ℕ → Ordering
list_order = slice_cmp nat_cmp

-- dictionary order of lists of lists
abbrev pub segments_order : List (List ℕ) → List (List ℕ) → Ordering
segments_order = slice_cmp list_order

-- nothing, or a first number below n
abbrev pub IsUnder : ℕ → List ℕ → Type 0
IsUnder n [] = Unit {0}
IsUnder n (x ∷ xs) = x < n

-- a first number above n
abbrev pub IsOver : ℕ → List ℕ → Type 0
IsOver n [] = ⊥
IsOver n (x ∷ xs) = n < x

-- ps is a beginning of qs
abbrev pub IsBeginning : List ℕ → List ℕ → Type 0
IsBeginning [] qs = Unit {0}
IsBeginning (p ∷ ps) [] = ⊥
IsBeginning (p ∷ ps) (q ∷ qs) = (p ≡ q) × IsBeginning ps qs

-- ps comes before qs, whatever follows either
abbrev pub Precedes : List ℕ → List ℕ → Type 0
Precedes ps qs = (s t : List ℕ) → list_order (ps ++ s) (qs ++ t) ≡ Less
