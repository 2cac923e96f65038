-- Two lists from their beginnings.
use Rattle.std.specs.Prelude.{◌≡◌, ℕ, List, [], ◌∷◌, ◌++◌}

-- two lists begin with one number, and these lists follow it
abbrev pub BeginAlike : (xs ys xs_rest ys_rest : List ℕ) → Type 0
BeginAlike xs ys xs_rest ys_rest = (x : ℕ) × (xs ≡ x ∷ xs_rest) × (ys ≡ x ∷ ys_rest)

-- two lists that are equal are empty
abbrev pub EndTogether : List ℕ → List ℕ → Type 0
EndTogether xs ys = xs ≡ ys → xs ≡ []

-- the two lists begin alike, up to what is left of each
abbrev pub HaveBeginning : (xs ys xs_left ys_left : List ℕ) → Type 0
HaveBeginning xs ys xs_left ys_left = (beginning : List ℕ) × (xs ≡ beginning ++ xs_left) × (ys ≡ beginning ++ ys_left)
