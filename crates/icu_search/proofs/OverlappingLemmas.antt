-- The least matches of a text one after another.
use Rattle.std.proofs.Common.{◌≡◌, ℕ, ◌+◌, ◌<◌, ◌≤◌, Bool, true, false, nat_le, List, [], ◌∷◌, Option, Some, None, if◌then◌else◌, refl, sym, ap, ◌∙◌, subst, arith, inl, inr}
use Rattle.std.specs.List.{AllByRecursion}
use Rattle.std.proofs.lemmas.Bool.{cases_Bool, cases_lt, le-leb, lt-leb, leb-true}
use Rattle.std.proofs.lemmas.Option.{same_Some}
use Rattle.icu_search_places.specs.LeastMatches.{Span, apart_from, least_matches, RisesTo}
use Rattle.icu_search_places.specs.Selections.{first_span, found_from}
use Rattle.icu_search_places.proofs.SpanListLemmas.{InPairs}
use Rattle.icu_search_places.proofs.LeastLemmas.{Leasts-least_from}
use Rattle.icu_search.specs.OverlappingMatches.{beginning_at}

-- ---- the first one from an offset on

taken : (offset : ℕ) (m : Span) (later : List Span) → nat_le offset m.start ≡ true → beginning_at offset (m ∷ later) ≡ m ∷ later
unfolding beginning_at
taken offset m later is = ap (λ b. if b then m ∷ later else beginning_at offset later) is

passed : (offset : ℕ) (m : Span) (later : List Span) → nat_le offset m.start ≡ false → beginning_at offset (m ∷ later) ≡ beginning_at offset later
unfolding beginning_at
passed offset m later not = ap (λ b. if b then m ∷ later else beginning_at offset later) not

pub all_begin : (spans : List Span) → beginning_at 0 spans ≡ spans
unfolding beginning_at
all_begin [] = refl
all_begin (m ∷ later) = taken 0 m later (le-leb 0 m.start (omega arith))

pub first_begins : (offset : ℕ) (spans : List Span) → first_span (apart_from offset spans) ≡ first_span (beginning_at offset spans)
unfolding apart_from beginning_at
first_begins offset [] = refl
first_begins offset (m ∷ later) =
    elim (cases_Bool (nat_le offset m.start)) [
      | inl is ↦ rw is refl
      | inr not ↦ rw not (first_begins offset later)
    ]

-- ---- and the others behind it

nothing_begins : (offset : ℕ) → beginning_at offset [] ≡ []
unfolding beginning_at
nothing_begins offset = refl

not_there : (m : Span) → Some m ≡ None → ⊥
not_there m e = cc

begins_there : (offset : ℕ) (spans : List Span) (m : Span) → Some m ≡ first_span (beginning_at offset spans) → offset ≤ m.start
begins_there offset [] m e = absurd (not_there m (e ∙ ap first_span (nothing_begins offset)))
begins_there offset (x ∷ later) m e =
    elim (cases_Bool (nat_le offset x.start)) [
      | inl is ↦
          let same : m ≡ x = same_Some m x (e ∙ ap first_span (taken offset x later is)) in
          let start : m.start ≡ x.start = ap (λ (m : Span). m.start) same in
          omega (arith, start, leb-true offset x.start is)
      | inr not ↦ begins_there offset later m (e ∙ ap first_span (passed offset x later not))
    ]

-- all of them begin behind an offset
none_before : (offset : ℕ) (later : List Span) → AllByRecursion (λ (m : Span). offset < m.start) later → beginning_at (offset + 1) later ≡ later
unfolding beginning_at
none_before offset [] all = refl
none_before offset (m ∷ later) all = taken (offset + 1) m later (le-leb (offset + 1) m.start (omega (arith, all.0)))

starts_of : (x : Span) (later : List Span) → AllByRecursion (RisesTo x) later → AllByRecursion (λ (m : Span). x.start < m.start) later
starts_of x [] all = tt
starts_of x (m ∷ later) all = (all.0.start, starts_of x later all.1)

one_and_others : (offset : ℕ) (spans : List Span) (m : Span) → InPairs RisesTo spans → Some m ≡ first_span (beginning_at offset spans)
    → beginning_at offset spans ≡ m ∷ beginning_at (m.start + 1) spans
one_and_others offset [] m rising e = absurd (not_there m (e ∙ ap first_span (nothing_begins offset)))
one_and_others offset (x ∷ later) m rising e =
    elim (cases_Bool (nat_le offset x.start)) [
      | inl is ↦
          let same : m ≡ x = same_Some m x (e ∙ ap first_span (taken offset x later is)) in
          let behind : beginning_at (x.start + 1) (x ∷ later) ≡ later =
          passed (x.start + 1) x later (lt-leb (x.start + 1) x.start (omega arith)) ∙ none_before x.start later (starts_of x later rising.0) in
          let here : beginning_at offset (x ∷ later) ≡ x ∷ beginning_at (x.start + 1) (x ∷ later) =
          taken offset x later is ∙ ap (λ (l : List Span). x ∷ l) (sym behind) in
          subst (λ (m : Span). beginning_at offset (x ∷ later) ≡ m ∷ beginning_at (m.start + 1) (x ∷ later)) (sym same) here
      | inr not ↦
          let first : Some m ≡ first_span (beginning_at offset later) = e ∙ ap first_span (passed offset x later not) in
          let there = begins_there offset later m first in
          let before : x.start < offset = elim (cases_lt x.start offset) [
            | inl less ↦ less
            | inr more ↦ differ (sym not ∙ le-leb offset x.start more)
          ] in
          passed offset x later not ∙ one_and_others offset later m rising.1 first
          ∙ ap (λ (l : List Span). m ∷ l) (sym (passed (m.start + 1) x later (lt-leb (m.start + 1) x.start (omega (arith, before, there)))))
    ]
  where
    differ : {A : Type 0} → false ≡ true → A
    differ h = cc

-- ---- of a text

module _ (matches : ℕ → ℕ → Bool) (n offset : ℕ) where
  pub left_is : (o : Option Span) → o ≡ first_span (found_from matches n offset) → o ≡ first_span (beginning_at offset (least_matches matches n))
  left_is o e = e ∙ first_begins offset (least_matches matches n)

  pub one_given : (m : Span) → Some m ≡ first_span (found_from matches n offset)
      → beginning_at offset (least_matches matches n) ≡ m ∷ beginning_at (m.start + 1) (least_matches matches n)
  one_given m e = one_and_others offset (least_matches matches n) m (Leasts-least_from matches 0 n n (omega arith)).rise (left_is (Some m) e)

  pub none_given : None ≡ first_span (found_from matches n offset) → beginning_at offset (least_matches matches n) ≡ []
  none_given e = empty (beginning_at offset (least_matches matches n)) (left_is None e)
    where
      empty : (l : List Span) → None ≡ first_span l → l ≡ []
      empty [] e = refl
      empty (x ∷ l) e = cc
