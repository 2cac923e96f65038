-- Texts in one list, and keys in one list.
use Rattle.std.specs.Prelude.{◌≡◌, ℕ, ◌+◌, ◌-◌, List, [], ◌∷◌, length, take, drop}
use Rattle.std.specs.List.{concat}

-- the parts of a list that end at these places: each begins at the end of the one before it, the first at `at`, and one
-- that would end before it begins is empty
abbrev pub parts_from : ℕ → List ℕ → List ℕ → List (List ℕ)
parts_from at bytes [] = []
parts_from at bytes (end ∷ ends) = take (end - at) (drop at bytes) ∷ parts_from end bytes ends

-- the ends of lists that stand one after the other, the first from `at` on
abbrev pub ends_from : ℕ → List (List ℕ) → List ℕ
ends_from at [] = []
ends_from at (xs ∷ more) = (at + length xs) ∷ ends_from (at + length xs) more

-- keys are one after the other at the front of room, and their ends at the front of the room for ends
pub record HasKeys (keys : List (List ℕ)) (out ends : List ℕ) : Type 0 where
  pub bytes : take (length (concat keys)) out ≡ concat keys
  pub places : take (length keys) ends ≡ ends_from 0 keys
