-- Numbers in hexadecimal digits, digit by digit.
use Rattle.std.proofs.Common.{◌≡◌, ℕ, ◌+◌, ◌*◌, ◌^◌, ◌<◌, ◌≤◌, List, length, get_or, drop, Some, None, refl, ap, ◌∙◌, add-one, arith}
use Rattle.std.specs.Prelude.{option_and_then}
use Rattle.std.proofs.Math.Nat.{pow-le-pow_right, pow-succ'}
use Rattle.std.proofs.lemmas.List.{at_drop_more, at_drop_all}
use Rattle.icu_cldr_root.specs.HexDigits.{digit_of, number_behind}

-- sixteen times as much
pub next_power : (i : ℕ) → 16 ^ (i + 1) ≡ 16 * 16 ^ i
next_power i = rw (add-one, pow-succ') refl

-- one digit more
pub digit_more : (i n d : ℕ) → n < 16 ^ i → d < 16 → 16 * n + d < 16 ^ (i + 1)
digit_more i n d below digit = let e = next_power i in omega arith

-- six digits have room
pub room : (i n : ℕ) → i < 6 → n < 16 ^ i → n < 1048576
room i n inside below =
    let positive : 0 < 16 = omega arith in
    let order : i ≤ 5 = omega arith in
    let bound : 16 ^ i ≤ 16 ^ 5 = pow-le-pow_right positive order in
    omega arith

-- a digit at an index, and those behind it
pub number_more : (v : ℕ) (word : List ℕ) (i d : ℕ) → i < length word → digit_of (get_or word i 0) ≡ Some d
    → number_behind v (drop i word) ≡ number_behind (16 * v + d) (drop (i + 1) word)
unfolding number_behind
number_more v word i d inside digit =
    at_drop_more (number_behind v) word i 0 inside
    ∙ ap (option_and_then (λ e. number_behind (16 * v + e) (drop (i + 1) word))) digit

-- what is no digit at an index
pub number_stops : (v : ℕ) (word : List ℕ) (i : ℕ) → i < length word → digit_of (get_or word i 0) ≡ None
    → number_behind v (drop i word) ≡ None
unfolding number_behind
number_stops v word i inside digit =
    at_drop_more (number_behind v) word i 0 inside
    ∙ ap (option_and_then (λ e. number_behind (16 * v + e) (drop (i + 1) word))) digit

-- behind the last digit
pub number_end : (v : ℕ) (word : List ℕ) (i : ℕ) → length word ≤ i → number_behind v (drop i word) ≡ Some v
unfolding number_behind
number_end v word i over = at_drop_all (number_behind v) word i over
