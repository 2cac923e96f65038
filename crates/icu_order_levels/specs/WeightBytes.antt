-- Weights as they are written in a key: the highest byte first, without the zero bytes at the end
-- (UTS #10, "Large Weight Values").
use Rattle.std.specs.Prelude.{ℕ, zero, suc, ◌/◌, ◌%◌, ◌^◌, List, [], ◌∷◌}

-- the k digits of w to a base, the highest first
abbrev pub digits : ℕ → ℕ → ℕ → List ℕ
digits base zero w = []
digits base (suc k) w = w / base ^ k ∷ digits base k (w % base ^ k)

-- x in front of xs, unless that is a lone zero
abbrev pub before_nonzero : ℕ → List ℕ → List ℕ
before_nonzero zero [] = []
before_nonzero (suc x) [] = suc x ∷ []
before_nonzero x (y ∷ ys) = x ∷ y ∷ ys

-- a list without the zeros that it ends in
abbrev pub without_last_zeros : List ℕ → List ℕ
without_last_zeros [] = []
without_last_zeros (x ∷ xs) = before_nonzero x (without_last_zeros xs)

-- a weight of k bytes as it is written
abbrev pub weight_bytes : ℕ → ℕ → List ℕ
weight_bytes k w = without_last_zeros (digits 256 k w)
