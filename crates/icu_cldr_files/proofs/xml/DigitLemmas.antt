-- Numbers in a base, digit by digit.
use Rattle.std.proofs.Common.{◌≡◌, ℕ, ◌+◌, ◌*◌, ◌^◌, ◌<◌, ◌≤◌, List, length, get_or, drop, Some, None, refl, ap, ◌∙◌, add-one, arith}
use Rattle.std.specs.Prelude.{option_and_then}
use Rattle.std.proofs.Math.Nat.{pow-le-pow_right, pow-succ'}
use Rattle.std.proofs.lemmas.List.{at_drop_more, at_drop_all}
use Rattle.icu_cldr_files.specs.xml.CharacterReferences.{digit_in, number_after}

-- sixteen times as much
pub next_power : (i : ℕ) → 16 ^ (i + 1) ≡ 16 * 16 ^ i
next_power i = rw (add-one, pow-succ') refl

-- one digit more
pub digit_more : (base i n d : ℕ) → base ≤ 16 → n < 16 ^ i → d < 16 → base * n + d < 16 ^ (i + 1)
digit_more base i n d most below digit = let e = next_power i in grind arith

-- seven digits have room
pub room : (base i n : ℕ) → base ≤ 16 → i < 7 → n < 16 ^ i → base * n < 2 ^ 28
room base i n most inside below =
    let positive : 0 < 16 = omega arith in
    let order : i ≤ 6 = omega arith in
    let bound : 16 ^ i ≤ 16 ^ 6 = pow-le-pow_right positive order in
    let small : n < 16777216 = omega arith in
    grind arith

-- a digit at an index, and those behind it
pub number_more : (base v : ℕ) (word : List ℕ) (i d : ℕ) → i < length word → digit_in base (get_or word i 0) ≡ Some d
    → number_after base v (drop i word) ≡ number_after base (base * v + d) (drop (i + 1) word)
unfolding number_after
number_more base v word i d inside digit =
    at_drop_more (number_after base v) word i 0 inside
    ∙ ap (option_and_then (λ e. number_after base (base * v + e) (drop (i + 1) word))) digit

-- what is no digit at an index
pub number_stops : (base v : ℕ) (word : List ℕ) (i : ℕ) → i < length word → digit_in base (get_or word i 0) ≡ None
    → number_after base v (drop i word) ≡ None
unfolding number_after
number_stops base v word i inside digit =
    at_drop_more (number_after base v) word i 0 inside
    ∙ ap (option_and_then (λ e. number_after base (base * v + e) (drop (i + 1) word))) digit

-- behind the last digit
pub number_end : (base v : ℕ) (word : List ℕ) (i : ℕ) → length word ≤ i → number_after base v (drop i word) ≡ Some v
unfolding number_after
number_end base v word i over = at_drop_all (number_after base v) word i over
