-- Digits in pairs, as they are read.
use Rattle.std.specs.Prelude.{ℕ, ◌+◌, ◌*◌, ◌≡◌, ◌<◌, ◌%◌, List, [], ◌∷◌, length, All}
use Rattle.icu_order_levels.specs.Numbers.{value_of, value_after}

-- digits in twos, the first of two the higher
abbrev pub in_twos : List ℕ → List ℕ
in_twos [] = []
in_twos (d ∷ []) = []
in_twos (d ∷ (e ∷ ds)) = (10 * d + e) ∷ in_twos ds

-- digits are a first pair and an even number of others
pub record IsFirstPair (digits : List ℕ) (first : ℕ) (others : List ℕ) : Type 0 where
  pub value : value_of digits ≡ value_after first others
  pub pair : first < 100
  pub some : 0 < first
  pub decimal : All (λ d. d < 10) others
  pub even : length others % 2 ≡ 0
  pub shorter : length others < length digits
