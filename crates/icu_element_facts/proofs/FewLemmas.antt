-- Lists of a few elements.
use Rattle.std.proofs.Common.{◌≡◌, ℕ, zero, suc, ◌<◌, List, [], ◌∷◌, length, take, slice_index_or, refl, arith}
use Rattle.icu_table_entries.specs.Elements.{Element}

-- the first of some elements
pub first_taken : (xs : List Element) (n : ℕ) (d : Element) → 0 < n → 0 < length xs → (rest : List Element) × (take n xs ≡ slice_index_or xs 0 d ∷ rest)
first_taken [] n d some any = absurd (omega arith)
first_taken (x ∷ xs) zero d some any = absurd (omega arith)
first_taken (x ∷ xs) (suc n) d some any = (take n xs, refl)
