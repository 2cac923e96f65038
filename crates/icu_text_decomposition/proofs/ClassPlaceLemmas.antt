-- Places from which the marks of each class go on.
use Rattle.std.proofs.Common.{◌≡◌, ◌≢◌, ◌≤◌, ◌<◌, ◌+◌, ◌-◌, ℕ, suc, true, false, nat_lt, List, [], ◌∷◌, ◌++◌, Option, Some, None, is_some, refl, sym, ap, ◌∙◌, arith, inl, inr}
use Rattle.std.proofs.lemmas.Bool.{cond-true, cond-false, cases_lt, cases_eq}
use Rattle.std.proofs.lemmas.Bool.Decides.{nat_tests}
use Rattle.ucd_normal.specs.CanonicalCombiningClass.{canonical_combining_class as class_of}
use Rattle.icu_text_decomposition.specs.declared.char_parts.Parts.{Parts}
use Rattle.icu_text_decomposition.specs.declared.class_places.ClassPlaces.{ClassPlaces}
use Rattle.icu_text_decomposition.specs.MarkClasses.{of_class}
use Rattle.icu_text_decomposition.specs.inner.ClassNumbers.{class_number, next_used_class, IsUsedClass}
use Rattle.icu_text_decomposition.specs.inner.ClassPlaces.{slots_at, places_of, class_left, found_left, place_left, marks_from}
use Rattle.icu_text_decomposition.specs.inner.FrontMarks.{front_marks}
use Rattle.icu_text_decomposition.specs.inner.Parts.{parts_left}
use Rattle.icu_text_decomposition.proofs.BeginningMarkLemmas.{AllOf, all-of_class, lists-first, lists-none, lists-same}
use Rattle.icu_text_decomposition.proofs.ClassNumberLemmas.{same_class, next_above, next_limit, unused_between}
use Rattle.icu_text_decomposition.proofs.FrontMarkLemmas.{front-nil, front-starter, front_marks-are_marks}
use Rattle.icu_text_decomposition.proofs.PassLemmas.{given_other, skip_classes}

-- ---- marks of a class

pub none_at_end : (k : ℕ) (at : List ℕ) → at ≡ [] → of_class k (front_marks at) ≡ []
none_at_end k at e = ap (λ l. of_class k (front_marks l)) e ∙ ap (of_class k) front-nil

pub none_at_starter : (k c : ℕ) (at after : List ℕ) → at ≡ c ∷ after → class_of c ≤ 0 → of_class k (front_marks at) ≡ []
none_at_starter k c at after e start = ap (λ l. of_class k (front_marks l)) e ∙ ap (of_class k) (front-starter c after start)

-- ---- slots

module _ {T : Type 0} (p : ClassPlaces T) (k : ℕ) where
  pub used_place : IsUsedClass k → places_of p k ≡ slots_at p (class_number k)
  used_place used = let yes : nat_lt (class_number k) 55 ≡ true = grind (arith, nat_tests) in cond-true _ _ _ yes

  pub unused_place : 55 ≤ class_number k → places_of p k ≡ None
  unused_place unused = let no : nat_lt (class_number k) 55 ≡ false = grind (arith, nat_tests) in cond-false _ _ _ no

-- a slot that is set is no other class's
pub other_places : {T : Type 0} (old new : ClassPlaces T) (class number : ℕ) → number ≡ class_number class → number < 55
    → ((n : ℕ) → n ≢ number → n < 64 → slots_at new n ≡ slots_at old n) → (k : ℕ) → k ≢ class → places_of new k ≡ places_of old k
other_places old new class number is small others k other =
    elim (cases_lt (class_number k) 55) [
      | inl used ↦
          let class_used : class_number class < 55 = omega arith in
          used_place new k used
          ∙ others (class_number k) (λ e. other (same_class class k class_used (e ∙ is))) (omega arith)
          ∙ sym (used_place old k used)
      | inr unused ↦ unused_place new k unused ∙ sym (unused_place old k unused)
    ]

-- ---- places

module _ {T : Type 0} (text : T → List ℕ) (k : ℕ) where
  -- a mark of another class
  pub found_other : (o : Option (Parts T)) (at after : List ℕ) (m : ℕ) → at ≡ m ∷ after → 0 < class_of m → class_of m ≢ k → found_left text k o after ≡ found_left text k o at
  found_other None at after m e mark other = sym (given_other at after m k e mark other)
  found_other (Some p) at after m e mark other = refl

  pub found_before : (o : Option (Parts T)) (at after : List ℕ) → is_some o ≡ true → found_left text k o after ≡ found_left text k o at
  found_before None at after some = cc
  found_before (Some p) at after some = refl

  pub found_first : (old new : Option (Parts T)) (p : Parts T) (at after : List ℕ) → is_some old ≡ false → new ≡ Some p → parts_left text p ≡ at → found_left text k new after ≡ found_left text k old at
  found_first None new p at after none is e = ap (λ o. found_left text k o after) is ∙ ap (λ l. of_class k (front_marks l)) e
  found_first (Some q) new p at after none is e = cc

  -- where the run ends, there are no marks of a class that has no place
  pub place_found : (o : Option (Parts T)) (at : List ℕ) → front_marks at ≡ [] → place_left text k o ≡ found_left text k o at
  place_found None at none = sym (ap (of_class k) none)
  place_found (Some p) at none = refl

  pub place_all : (o : Option (Parts T)) → AllOf k (place_left text k o)
  place_all None = tt
  place_all (Some p) = all-of_class k 256 (front_marks (parts_left text p)) (front_marks-are_marks (parts_left text p))

-- ---- the marks that are left

module _ {T : Type 0} (text : T → List ℕ) (p : ClassPlaces T) where
  pub class_all : (k : ℕ) → AllOf k (class_left text p k)
  class_all k = place_all text k (places_of p k)

  -- from a class of which nothing is left to the next one that a character has
  pub from_none : (k : ℕ) → k < 256 → class_left text p k ≡ [] → marks_from text p k ≡ marks_from text p (next_used_class k)
  from_none k small none =
      let above = next_above k small in
      skip_classes (class_left text p) k (next_used_class k) (omega arith) (next_limit k small)
      (λ i low high. elim (cases_eq i k) [
        | inl same ↦ ap (class_left text p) same ∙ none
        | inr other ↦ ap (place_left text i) (unused_place p i (unused_between k small i (omega arith) high))
      ])

  pub from_some : (k m : ℕ) (more : List ℕ) → k < 256 → class_left text p k ≡ m ∷ more → marks_from text p k ≡ m ∷ (more ++ marks_from text p (k + 1))
  from_some k m more small some =
      let e : suc k ≡ k + 1 = omega arith in
      lists-first (class_left text p) k small ∙ ap (λ l. l ++ marks_from text p (suc k)) some ∙ ap (λ n. m ∷ (more ++ marks_from text p n)) e

  pub from_end : marks_from text p 256 ≡ []
  from_end = lists-none (class_left text p)

-- the marks of a class go on, and nothing else changes
pub went_on : {T : Type 0} (text : T → List ℕ) (old new : ClassPlaces T) (k : ℕ) (cs : List ℕ) → k < 256 → class_left text new k ≡ cs → ((i : ℕ) → i ≢ k → places_of new i ≡ places_of old i)
    → marks_from text new k ≡ cs ++ marks_from text old (k + 1)
went_on text old new k cs small own others =
    let e : suc k ≡ k + 1 = omega arith in
    lists-first (class_left text new) k small
    ∙ ap (λ l. l ++ marks_from text new (suc k)) own
    ∙ ap (λ n. cs ++ marks_from text new n) e
    ∙ ap (λ l. cs ++ l) (lists-same (class_left text new) (class_left text old) (256 - (k + 1)) (k + 1) (λ i low high. ap (place_left text i) (others i (λ same. absurd (omega arith)))))
