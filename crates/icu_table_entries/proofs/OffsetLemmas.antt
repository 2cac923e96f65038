-- Ordinals of weights of three bytes.
use Rattle.std.proofs.Common.{◌≡◌, ℕ, Bool, true, false, arith}
use Rattle.icu_table_entries.specs.Weights.{weight_at, ordinal_of_weight, ordinal_of}

-- the weight with an ordinal has that ordinal
pub ordinal_of_weight_at : (compressible : Bool) (place : ℕ) → ordinal_of_weight compressible (weight_at compressible place) ≡ place
unfolding ordinal_of weight_at
ordinal_of_weight_at true place = omega arith
ordinal_of_weight_at false place = omega arith
