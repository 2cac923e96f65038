-- Digits of a range, one by one.
use Rattle.std.proofs.Common.{◌≡◌, ℕ, ◌+◌, ◌-◌, ◌%◌, ◌≤◌, Bool, true, false, Option, Some, None, refl, sym, subst, ◌∙◌, arith}
use Rattle.std.specs.Prelude.{◌==◌, ◌&&◌, nat_le, nat_lt, MatchBool}
use Rattle.std.specs.BTreeMap.{get}
use Rattle.std.specs.Char.{IsScalar}
use Rattle.std.specs.Ordering.{nat_cmp}
use Rattle.std.proofs.lemmas.Bool.Decides.{nat_tests}
use Rattle.std.proofs.lemmas.Bool.{eqb-true}
use Rattle.icu_table_data.specs.Data.{Data}
use Rattle.icu_cldr_root.specs.inner.Digits.{IsDigitOrAbsent, MakesDigits}
use Rattle.icu_cldr_root.specs.inner.LineEntries.{Plain}
use Rattle.icu_table_mappings.specs.GrownLists.{Extends}
use Rattle.icu_table_mappings.proofs.GrownListLemmas.{digit_further}

pub or_absent_further : (d new : Data) (value : ℕ) (was is : Option ℕ) → Extends d new → IsDigitOrAbsent d value was is → IsDigitOrAbsent new value was is
or_absent_further d new value None is grows digit = digit
or_absent_further d new value (Some plain) is grows (e, has, digit) = (e, has, digit_further d new value plain e grows.lists digit)

pub at_code : (first code : ℕ) → first ≤ code → (nat_le first code && nat_lt code (code + 1)) ≡ true
at_code first code h = grind (arith, nat_tests)

before_code : (first code : ℕ) → (nat_le first code && nat_lt code code) ≡ false
before_code first code = grind (arith, nat_tests)

elsewhere : (first code c : ℕ) → (code == c) ≡ false → (nat_le first c && nat_lt c (code + 1)) ≡ (nat_le first c && nat_lt c code)
elsewhere first code c h = grind (arith, nat_tests)

pub by_test : (b : Bool) (P P' Q Q' : Type 0) → (P → P') → (Q → Q') → MatchBool b P Q → MatchBool b P' Q'
by_test true P P' Q Q' f g h = f h
by_test false P P' Q Q' f g h = g h

-- no digit was made
pub no_digits : (d : Data) (start first : ℕ) (old : Plain) → MakesDigits d start first first old old
no_digits d start first old c scalar = subst (λ b. MatchBool b (IsDigitOrAbsent d ((c - start) % 10) (get nat_cmp old c) (get nat_cmp old c)) (get nat_cmp old c ≡ get nat_cmp old c)) (sym (none first c)) refl where
  none : (first c : ℕ) → (nat_le first c && nat_lt c first) ≡ false
  none first c = grind (arith, nat_tests)

module _ (d new : Data) (start first code : ℕ) (old mid after : Plain) (up : first ≤ code) (grows : Extends d new) (made : MakesDigits d start first code old mid)
    (others : (x : ℕ) → (code == x) ≡ false → get nat_cmp after x ≡ get nat_cmp mid x) where
  digit_elsewhere : (c : ℕ) → IsScalar c → (code == c) ≡ false
      → MatchBool (nat_le first c && nat_lt c (code + 1)) (IsDigitOrAbsent new ((c - start) % 10) (get nat_cmp old c) (get nat_cmp after c)) (get nat_cmp after c ≡ get nat_cmp old c)
  digit_elsewhere c scalar other =
      subst (λ b. MatchBool b (IsDigitOrAbsent new ((c - start) % 10) (get nat_cmp old c) (get nat_cmp after c)) (get nat_cmp after c ≡ get nat_cmp old c)) (sym (elsewhere first code c other))
      (by_test (nat_le first c && nat_lt c code) _ _ _ _
      (λ h. subst (IsDigitOrAbsent new ((c - start) % 10) (get nat_cmp old c)) (sym (others c other)) (or_absent_further d new ((c - start) % 10) (get nat_cmp old c) (get nat_cmp mid c) grows h))
      (λ h. others c other ∙ h) (made c scalar))

  module _ (digit : IsScalar code → IsDigitOrAbsent new ((code - start) % 10) (get nat_cmp mid code) (get nat_cmp after code)) where
    digit_here : IsScalar code
        → MatchBool (nat_le first code && nat_lt code (code + 1)) (IsDigitOrAbsent new ((code - start) % 10) (get nat_cmp old code) (get nat_cmp after code)) (get nat_cmp after code ≡ get nat_cmp old code)
    digit_here scalar =
        let was : get nat_cmp mid code ≡ get nat_cmp old code = subst (λ b. MatchBool b (IsDigitOrAbsent d ((code - start) % 10) (get nat_cmp old code) (get nat_cmp mid code)) (get nat_cmp mid code ≡ get nat_cmp old code)) (before_code first code) (made code scalar) in
        subst (λ b. MatchBool b (IsDigitOrAbsent new ((code - start) % 10) (get nat_cmp old code) (get nat_cmp after code)) (get nat_cmp after code ≡ get nat_cmp old code)) (sym (at_code first code up))
        (subst (λ (o : Option ℕ). IsDigitOrAbsent new ((code - start) % 10) o (get nat_cmp after code)) was (digit scalar))

    digit_at : (c : ℕ) (b : Bool) → (code == c) ≡ b → IsScalar c
        → MatchBool (nat_le first c && nat_lt c (code + 1)) (IsDigitOrAbsent new ((c - start) % 10) (get nat_cmp old c) (get nat_cmp after c)) (get nat_cmp after c ≡ get nat_cmp old c)
    digit_at c true same scalar =
        subst (λ x. IsScalar x → MatchBool (nat_le first x && nat_lt x (code + 1)) (IsDigitOrAbsent new ((x - start) % 10) (get nat_cmp old x) (get nat_cmp after x)) (get nat_cmp after x ≡ get nat_cmp old x)) (eqb-true code c same)
        digit_here scalar
    digit_at c false other scalar = digit_elsewhere c scalar other

    -- one code more
    pub next_digit : MakesDigits new start first (code + 1) old after
    next_digit c scalar = digit_at c (code == c) refl scalar
