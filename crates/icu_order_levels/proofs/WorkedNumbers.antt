-- Worked primaries of numbers, with 0F as numeric lead.
use Rattle.std.proofs.Common.{◌≡◌, [], ◌∷◌, refl, replicate}
use Rattle.icu_order_levels.specs.Numbers.{number_weights, run_weights, pair_count}

zeros : run_weights 0x0F (0 ∷ 0 ∷ 0 ∷ []) ≡ 0x0F020000 ∷ []
unfolding pair_count
zeros = refl

first_zeros : run_weights 0x0F (0 ∷ 0 ∷ 7 ∷ []) ≡ 0x0F090000 ∷ []
unfolding pair_count
first_zeros = refl

last_of_one_byte : number_weights 0x0F 73 ≡ 0x0F4B0000 ∷ []
unfolding pair_count
last_of_one_byte = refl

first_of_two_bytes : number_weights 0x0F 74 ≡ 0x0F4C0200 ∷ []
unfolding pair_count
first_of_two_bytes = refl

last_of_two_bytes : number_weights 0x0F 10233 ≡ 0x0F73FF00 ∷ []
unfolding pair_count
last_of_two_bytes = refl

first_of_three_bytes : number_weights 0x0F 10234 ≡ 0x0F740202 ∷ []
unfolding pair_count
first_of_three_bytes = refl

last_of_three_bytes : number_weights 0x0F 1042489 ≡ 0x0F83FFFF ∷ []
unfolding pair_count
last_of_three_bytes = refl

first_great : number_weights 0x0F 1042490 ≡ 0x0F840D13 ∷ 0x0F3BBE00 ∷ []
unfolding pair_count
first_great = refl

two_millions : number_weights 0x0F 2000000 ≡ 0x0F840E00 ∷ []
unfolding pair_count
two_millions = refl

ten_millions : number_weights 0x0F 10000000 ≡ 0x0F841E00 ∷ []
unfolding pair_count
ten_millions = refl

ten_millions_and_one : number_weights 0x0F 10000001 ≡ 0x0F841F0B ∷ 0x0F0B0C00 ∷ []
unfolding pair_count
ten_millions_and_one = refl

-- 1 and 254 zeros: a number of 254 digits, and one of the zero that is left
longest : run_weights 0x0F (1 ∷ replicate 254 0) ≡ 0x0FFF1E00 ∷ 0x0F020000 ∷ []
unfolding pair_count
longest = refl
