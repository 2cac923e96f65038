-- How many characters a range has.
use Rattle.std.proofs.Common.{◌≡◌, ℕ, zero, suc, ◌+◌, ◌-◌, ◌<◌, ◌≤◌, Bool, true, false, ◌||◌, List, ◌∷◌, length, cond, refl, ap, ◌∙◌, arith, inl, inr}
use Rattle.std.specs.Prelude.{filter, min, nat_lt}
use Rattle.std.specs.List.{range_with_len}
use Rattle.std.proofs.lemmas.Bool.{cases_lt, ltb-true, ltb-false}
use Rattle.icu_rule_parser.specs.declared.statement.CharacterRange.{CharacterRange}
use Rattle.icu_rule_meaning.specs.Rules.{characters_of, is_scalar}

-- how many characters have a lower code
abbrev pub below : ℕ → ℕ
below code = min code 0xD800 + (code - 0xE000)

abbrev one_if : Bool → ℕ
one_if true = 1
one_if false = 0

below_next : (c : ℕ) (before behind : Bool) → nat_lt c 0xD800 ≡ before → nat_lt 0xDFFF c ≡ behind
    → below (c + 1) ≡ below c + one_if (before || behind)
below_next c true behind e f = let low : c < 0xD800 = ltb-true c 0xD800 e in omega (arith, low)
below_next c false true e f = let high : 0xDFFF < c = ltb-true 0xDFFF c f in omega (arith, high)
below_next c false false e f =
    let from : 0xD800 ≤ c = ltb-false c 0xD800 e in
    let to : c ≤ 0xDFFF = ltb-false 0xDFFF c f in
    omega (arith, from, to)

one_more_if : (b : Bool) (c : ℕ) (cs : List ℕ) → length (cond b (c ∷ cs) cs) ≡ length cs + one_if b
one_more_if true c cs = omega arith
one_more_if false c cs = omega arith

counted : (first count : ℕ) → length (filter is_scalar (range_with_len first count)) + below first ≡ below (first + count)
counted first zero = omega arith
counted first (suc count) =
    let rest : List ℕ = filter is_scalar (range_with_len (first + 1) count) in
    let more : length (cond (is_scalar first) (first ∷ rest) rest) ≡ length rest + one_if (is_scalar first) = one_more_if (is_scalar first) first rest in
    let next : below (first + 1) ≡ below first + one_if (is_scalar first) = below_next first (nat_lt first 0xD800) (nat_lt 0xDFFF first) refl refl in
    let behind : length rest + below (first + 1) ≡ below (first + 1 + count) = counted (first + 1) count in
    let same : below (first + 1 + count) ≡ below (first + suc count) = ap below (omega arith) in
    omega (arith, more, next, behind, same)

pub characters_counted : (range : CharacterRange) → length (characters_of range) ≡ below (range.last + 1) - below range.first
characters_counted range = elim (cases_lt (range.last + 1) range.first) [
  | inl empty ↦
      let none : range.last + 1 - range.first ≡ 0 = omega (arith, empty) in
      ap (λ n. length (filter is_scalar (range_with_len range.first n))) none ∙ omega (arith, empty)
  | inr some ↦
      let all : length (characters_of range) + below range.first ≡ below (range.first + (range.last + 1 - range.first)) =
      counted range.first (range.last + 1 - range.first) in
      let end : below (range.first + (range.last + 1 - range.first)) ≡ below (range.last + 1) = ap below (omega (arith, some)) in
      omega (arith, all, end)
]
