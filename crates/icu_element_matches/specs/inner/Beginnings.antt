-- What two lists of characters have in common at their beginnings.
use Rattle.std.specs.Prelude.{ℕ, List, [], ◌∷◌, nat_eq, if◌then◌else◌}

-- the longest list that begins both
unfoldable pub common_beginning : List ℕ → List ℕ → List ℕ
common_beginning [] ys = []
common_beginning (x ∷ xs) [] = []
common_beginning (x ∷ xs) (y ∷ ys) = if nat_eq x y then y ∷ common_beginning xs ys else []
