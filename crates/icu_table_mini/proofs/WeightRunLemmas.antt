-- A run of weights grows by one.
use Rattle.std.proofs.Common.{◌≡◌, ℕ, ◌+◌, ◌*◌, ◌++◌, ◌∷◌, [], length, refl, arith}
use Rattle.std.proofs.lemmas.List.FromFn.{length-map-range_with_len, map-range_with_len_more}
use Rattle.icu_table_mini.specs.Characters.{run}

pub run_none : (first step : ℕ) → run first step 0 ≡ []
unfolding run
run_none first step = refl

pub run_more : (first step count : ℕ) → run first step (count + 1) ≡ run first step count ++ (first + step * count) ∷ []
unfolding run
run_more first step count = map-range_with_len_more (λ i. first + step * i) 0 count count (omega arith)

pub length_run : (first step count : ℕ) → length (run first step count) ≡ count
unfolding run
length_run first step count = length-map-range_with_len (λ i. first + step * i) 0 count
