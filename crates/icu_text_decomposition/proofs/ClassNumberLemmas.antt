-- Each class that a character has has a number of its own.
use Rattle.std.proofs.Common.{◌≡◌, ◌≤◌, ◌<◌, ◌+◌, ◌-◌, ◌||◌, ◌&&◌, ℕ, suc, Bool, true, false, nat_eq, nat_lt, nat_le, List, [], ◌∷◌, get_or, refl, sym, ap, ◌∙◌, arith, inl, inr, ltb-true, leb-true}
use Rattle.std.proofs.lemmas.Bool.{cond-false, and_parts, or_cases, cases_lt}
use Rattle.std.proofs.lemmas.Bool.Decides.{nat_tests}
use Rattle.ucd_table.proofs.Computing.{tables}
use Rattle.ucd_table.proofs.RangedFacts.{values_ok, Stepped-at_values}
use Rattle.ucd_table.proofs.TrieCheck.{all_below, all_below-at}
use Rattle.ucd_normal.specs.CanonicalCombiningClass.{canonical_combining_class as class_of}
use Rattle.ucd_normal.proofs.CanonicalCombiningClassLemmas.{canonical_combining_class_stepped}
use Rattle.icu_text_decomposition.specs.inner.ClassNumbers.{class_number, next_used_class, IsUsedClass}

-- the class is 0, or has a number
has_number : ℕ → Bool
has_number k = nat_le k 0 || nat_lt (class_number k) 55

-- the classes by their numbers
classes : List ℕ
classes = 1 ∷ 6 ∷ 7 ∷ 8 ∷ 9 ∷ 10 ∷ 11 ∷ 12 ∷ 13 ∷ 14 ∷ 15 ∷ 16 ∷ 17 ∷ 18 ∷ 19 ∷ 20 ∷ 21 ∷ 22 ∷ 23 ∷ 24 ∷ 25 ∷ 26 ∷ 27 ∷ 28 ∷ 29 ∷ 30 ∷ 31 ∷ 32 ∷ 33 ∷ 34 ∷ 35 ∷ 36 ∷ 84 ∷ 91 ∷ 103 ∷ 107 ∷ 118 ∷ 122 ∷ 129 ∷ 130 ∷ 132 ∷ 202 ∷ 214 ∷ 216 ∷ 218 ∷ 220 ∷ 222 ∷ 224 ∷ 226 ∷ 228 ∷ 230 ∷ 232 ∷ 233 ∷ 234 ∷ 240 ∷ []

-- a class that has a number has it alone
has_own_number : ℕ → Bool
has_own_number k = nat_le 55 (class_number k) || nat_eq (get_or classes (class_number k) 0) k

each_has_number : (c : ℕ) → has_number (class_of c) ≡ true
unfolding tables values_ok canonical_combining_class_stepped has_number class_number
each_has_number c = Stepped-at_values class_of canonical_combining_class_stepped has_number refl c

-- the class of a mark has a number
pub mark_class-is_used : (c : ℕ) → 0 < class_of c → IsUsedClass (class_of c)
unfolding has_number
mark_class-is_used c mark =
    elim (or_cases (nat_le (class_of c) 0) (nat_lt (class_number (class_of c)) 55) (each_has_number c)) [
      | inl none ↦ absurd (grind (arith, nat_tests))
      | inr some ↦ grind (arith, nat_tests)
    ]

all_own : all_below has_own_number 256 ≡ true
unfolding all_below has_own_number class_number classes
all_own = refl

numbers_end : (k : ℕ) → 256 ≤ k → class_number k ≡ 55
unfolding class_number
numbers_end k le = let no : nat_lt k 256 ≡ false = grind (arith, nat_tests) in cond-false _ _ _ no

numbered : (k : ℕ) → IsUsedClass k → get_or classes (class_number k) 0 ≡ k
unfolding has_own_number
numbered k used =
    elim (cases_lt k 256) [
      | inl small ↦ elim (or_cases (nat_le 55 (class_number k)) (nat_eq (get_or classes (class_number k) 0) k) (all_below-at has_own_number 256 k all_own small)) [
        | inl none ↦ absurd (grind (arith, nat_tests))
        | inr own ↦ grind (arith, nat_tests)
      ]
      | inr large ↦ absurd (omega (arith, numbers_end k large))
    ]

-- classes with one number are one class
pub same_class : (j k : ℕ) → IsUsedClass j → class_number k ≡ class_number j → k ≡ j
same_class j k used e =
    let used' : class_number k < 55 = omega arith in
    sym (numbered k used') ∙ ap (λ n. get_or classes n 0) e ∙ numbered j used

-- ---- the next class

-- it is above the class, and no character has a class between
has_next : ℕ → Bool
has_next k = nat_lt k (next_used_class k) && (nat_le (next_used_class k) 256 && all_below (λ d. nat_le 55 (class_number (suc k + d))) (next_used_class k - suc k))

each_has_next : all_below has_next 256 ≡ true
unfolding all_below has_next next_used_class class_number
each_has_next = refl

module _ (k : ℕ) (small : k < 256) where
  next_parts : (nat_lt k (next_used_class k) ≡ true) × ((nat_le (next_used_class k) 256 && all_below (λ d. nat_le 55 (class_number (suc k + d))) (next_used_class k - suc k)) ≡ true)
  unfolding has_next
  next_parts = and_parts (nat_lt k (next_used_class k)) (nat_le (next_used_class k) 256 && all_below (λ d. nat_le 55 (class_number (suc k + d))) (next_used_class k - suc k)) (all_below-at has_next 256 k each_has_next small)

  limit_parts : (nat_le (next_used_class k) 256 ≡ true) × (all_below (λ d. nat_le 55 (class_number (suc k + d))) (next_used_class k - suc k) ≡ true)
  limit_parts = and_parts (nat_le (next_used_class k) 256) (all_below (λ d. nat_le 55 (class_number (suc k + d))) (next_used_class k - suc k)) next_parts.1

  pub next_above : k < next_used_class k
  next_above = ltb-true k (next_used_class k) next_parts.0

  pub next_limit : next_used_class k ≤ 256
  next_limit = leb-true (next_used_class k) 256 limit_parts.0

  pub unused_between : (i : ℕ) → k < i → i < next_used_class k → 55 ≤ class_number i
  unused_between i low high =
      let e : suc k + (i - suc k) ≡ i = omega arith in
      let at = all_below-at (λ d. nat_le 55 (class_number (suc k + d))) (next_used_class k - suc k) (i - suc k) limit_parts.1 (omega arith) in
      leb-true 55 (class_number i) (ap (λ n. nat_le 55 (class_number n)) (sym e) ∙ at)
