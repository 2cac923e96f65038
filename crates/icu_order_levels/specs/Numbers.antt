-- The primaries of numbers, which order by value (UTS #35 part 5, "Setting Options" on numeric; the weights are those
-- of ICU's keys).
use Rattle.std.specs.Prelude.{ℕ, zero, suc, ◌+◌, ◌-◌, ◌*◌, ◌/◌, ◌%◌, ◌^◌, ◌==◌, nat_lt, if◌then◌else◌, List, [], ◌∷◌, ◌++◌, take, drop}
use Rattle.icu_order_levels.specs.WeightBytes.{digits, without_last_zeros}

-- a primary of a number: the numeric lead and three bytes, 0 where there is none
abbrev pub number_weight : ℕ → ℕ → ℕ → ℕ → ℕ
number_weight numeric a b c = numeric * 256 ^ 3 + a * 256 ^ 2 + b * 256 + c

-- bytes in threes, each after the numeric lead
abbrev pub in_threes : ℕ → List ℕ → List ℕ
in_threes numeric [] = []
in_threes numeric (a ∷ []) = number_weight numeric a 0 0 ∷ []
in_threes numeric (a ∷ (b ∷ [])) = number_weight numeric a b 0 ∷ []
in_threes numeric (a ∷ (b ∷ (c ∷ bs))) = number_weight numeric a b c ∷ in_threes numeric bs

-- how many pairs of digits a number has, of up to as many as are asked for
unfoldable pub pair_count : ℕ → ℕ → ℕ
pair_count zero v = 0
pair_count (suc most) v = if v == 0 then 0 else suc (pair_count most (v / 100))

-- a byte for each pair of digits: odd where more follow, even at the last
abbrev pub pair_bytes : List ℕ → List ℕ
pair_bytes [] = []
pair_bytes (p ∷ []) = (10 + 2 * p) ∷ []
pair_bytes (p ∷ (q ∷ ps)) = (11 + 2 * p) ∷ pair_bytes (q ∷ ps)

-- numbers below 74: one byte
abbrev pub smallest_bytes : ℕ → List ℕ
smallest_bytes v = (2 + v) ∷ []

-- numbers from 74 and below 10234: two bytes
abbrev pub small_bytes : ℕ → List ℕ
small_bytes v = (76 + (v - 74) / 254) ∷ (2 + (v - 74) % 254) ∷ []

-- numbers from 10234 and below 1042490: three bytes
abbrev pub middling_bytes : ℕ → List ℕ
middling_bytes v = (116 + (v - 10234) / 254 / 254) ∷ (2 + (v - 10234) / 254 % 254) ∷ (2 + (v - 10234) % 254) ∷ []

-- greater numbers, of n pairs of digits: a byte for n, then the pairs without the 00 that they end in
abbrev pub great_bytes : ℕ → ℕ → List ℕ
great_bytes n v = (128 + n) ∷ pair_bytes (without_last_zeros (digits 100 n v))

-- the bytes of a number below 10^254, which has 127 pairs of digits at most
abbrev pub number_bytes : ℕ → List ℕ
number_bytes v =
    if nat_lt v 74 then smallest_bytes v
    else (if nat_lt v 10234 then small_bytes v
    else (if nat_lt v 1042490 then middling_bytes v else great_bytes (pair_count 127 v) v))

-- the primaries of a number below 10^254, before reordering
abbrev pub number_weights : ℕ → ℕ → List ℕ
number_weights numeric v = in_threes numeric (number_bytes v)

-- ---- runs of digits

-- the value of decimal digits, the highest first, after digits of the value v
abbrev pub value_after : ℕ → List ℕ → ℕ
value_after v [] = v
value_after v (d ∷ ds) = value_after (10 * v + d) ds

-- the value of decimal digits, the highest first
abbrev pub value_of : List ℕ → ℕ
value_of ds = value_after 0 ds

-- digits from the first on that isn't zero
abbrev pub without_first_zeros : List ℕ → List ℕ
without_first_zeros [] = []
without_first_zeros (zero ∷ ds) = without_first_zeros ds
without_first_zeros (suc d ∷ ds) = suc d ∷ ds

-- how many digits are read as one number at most
abbrev pub longest_number : ℕ
longest_number = 254

-- The primaries of a run of digits: without its first zeros, in numbers of 254 digits at most. The first list is one
-- to go by, which has as many members as there may be numbers
abbrev pub run_weights_by : List ℕ → ℕ → List ℕ → List ℕ
run_weights_by [] numeric ds = []
run_weights_by (f ∷ fs) numeric [] = []
run_weights_by (f ∷ fs) numeric (d ∷ ds) =
    number_weights numeric (value_of (take longest_number (without_first_zeros (d ∷ ds))))
    ++ run_weights_by fs numeric (drop longest_number (without_first_zeros (d ∷ ds)))

-- the primaries of a run of digits of any length
abbrev pub run_weights : ℕ → List ℕ → List ℕ
run_weights numeric ds = run_weights_by ds numeric ds
