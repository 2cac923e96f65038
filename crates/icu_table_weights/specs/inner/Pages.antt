-- The weights that the bits of a page stand for.
use Rattle.std.specs.Prelude.{ℕ, ◌+◌, ◌*◌, ◌<◌, ◌≡◌, ◌==◌, false, List, slice_index, IsTrue}
use Rattle.std.specs.Int.{bit_at}
use Rattle.icu_table_weights.specs.WeightSets.{is_three_bytes}

-- what is P at a place before the n-th
pub record IsBelow (P : ℕ → ℕ → Type 0) (n w : ℕ) : Type 0 where
  pub place : ℕ
  pub below : place < n
  pub is : P place w

-- the weight of a bit that is set, of three bytes
pub record IsOfSetBit (word bit weight w : ℕ) : Type 0 where
  pub set : IsTrue (bit_at word bit == 1)
  pub three : IsTrue (is_three_bytes weight)
  pub is : w ≡ weight

-- the weight, if it has other than three bytes
pub record IsOther (weight w : ℕ) : Type 0 where
  pub other : is_three_bytes w ≡ false
  pub is : w ≡ weight

-- one of a word, by the weight of its first bit
abbrev pub IsOfWord : ℕ → ℕ → ℕ → Type 0
IsOfWord word first w = IsBelow (λ bit. IsOfSetBit word bit (first + bit * 256)) 64 w

-- one of a page, by the least weight with its lead byte
abbrev pub IsOfPage : List ℕ → ℕ → ℕ → Type 0
IsOfPage words least w = IsBelow (λ place. IsOfWord (slice_index words place) (least + place * 0x4000)) 1024 w
