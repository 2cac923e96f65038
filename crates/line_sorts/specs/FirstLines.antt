-- Which lines are printed of those that are sorted.
use Rattle.std.specs.Prelude.{ℕ, ◌++◌, Bool, List, [], ◌∷◌, bytes_eq, if◌then◌else◌}
use Rattle.line_sorts.specs.declared.sort_request.Repeats.{Repeats}
use Rattle.line_sorts.specs.declared.sort_request.Repeats.TheVariants.{All, FirstOnly}

-- of those behind another the ones that are not equal to the one before them
abbrev pub firsts_behind : {X : Type 0} → (X → X → Bool) → X → List X → List X
firsts_behind same before [] = []
firsts_behind same before (x ∷ xs) = if same before x then firsts_behind same x xs else x ∷ firsts_behind same x xs

-- the first of those that stand together and are equal
abbrev pub firsts : {X : Type 0} → (X → X → Bool) → List X → List X
firsts same [] = []
firsts same (x ∷ xs) = x ∷ firsts_behind same x xs

-- the ones that are printed
abbrev pub printed : {X : Type 0} → Repeats → (X → X → Bool) → List X → List X
printed All same xs = xs
printed FirstOnly same xs = firsts same xs

-- whether lines have one key
abbrev pub have_one_key : List ℕ × List ℕ → List ℕ × List ℕ → Bool
have_one_key x y = bytes_eq x.0 y.0

-- a line with a separator, unless it has the key of the line before it
abbrev pub unrepeated : ℕ → List ℕ × List ℕ → List ℕ × List ℕ → List ℕ
unrepeated separator before line = if have_one_key before line then [] else line.1 ++ separator ∷ []
