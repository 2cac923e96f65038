-- What marks say of offsets.
use Rattle.std.proofs.Common.{◌≡◌, ℕ, zero, suc, ◌<◌, Bool, List, [], ◌∷◌, length, map, get_or, refl, arith}

-- the mark of an offset
pub mark_at : (f : ℕ → Bool) (offsets : List ℕ) (k : ℕ) (d : Bool) → k < length offsets → get_or (map f offsets) k d ≡ f (get_or offsets k 0)
mark_at f [] k d inside = absurd (omega (arith, inside))
mark_at f (o ∷ offsets) zero d inside = refl
mark_at f (o ∷ offsets) (suc k) d inside = mark_at f offsets k d (omega (arith, inside))
