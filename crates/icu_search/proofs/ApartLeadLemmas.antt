-- Primary weights of one byte that a reordering keeps apart.
use Rattle.std.proofs.Common.{◌≡◌, ◌⊎◌, ℕ, ◌/◌, ◌<◌, ◌≤◌, Bool, true, false, ◌==◌, List, [], ◌∷◌, Option, Some, None, length, map, take, get_or, set, replicate, refl, sym, ap, ◌∙◌, arith, inl, inr}
use Rattle.std.specs.Prelude.{slice_index_or, is_some}
use Rattle.std.specs.Option.{option_map}
use Rattle.std.specs.declared.cmp.Ordering.{Ordering}
use Rattle.std.specs.declared.cmp.Ordering.TheVariants.{Less, Equal, Greater}
use Rattle.std.specs.Ordering.{ordering_then}
use Rattle.std.proofs.lemmas.Bool.{cases_eq, and_from, and_parts, and_right, eqb-true, false≢true, true≢false}
use Rattle.std.proofs.lemmas.Grind.{common_steps}
use Rattle.std.proofs.lemmas.List.{length-take, length-map, get_or-set_other}
use Rattle.unicode_normalization.specs.Forms.{nfd}
use Rattle.icu_order_levels.specs.ListOrder.{list_order}
use Rattle.icu_order_levels.specs.Keys.{primaries_order}
use Rattle.icu_order_levels.proofs.Order.{less_cases, tied_lists}
use Rattle.icu_table_provider.specs.Reorderings.{Reordering}
use Rattle.icu_table_provider.specs.CollatorTables.{reorder, reorder_by}
use Rattle.icu_order_texts.specs.weighting.Collations.{Collation}
use Rattle.icu_order_texts.specs.weighting.Forms.{compression_of}
use Rattle.icu_order_texts.specs.TextOrder.{lists_by, text_order}
use Rattle.icu_search.specs.inner.FirstWeights.{AreApart, BeginsWith, RiseTo, IsComparedAsLess, is_lone, low}

-- ---- weights that are told apart

pub told_apart : (c : Collation) (marks : List Bool) (p q : ℕ) → AreApart c marks → low p ≡ low q → (p ≡ q → ⊥) → is_lone marks p ≡ true → is_lone marks q ≡ true
    → reorder c.tables p ≡ reorder c.tables q → ⊥
told_apart c marks p q apart same other one another = apart p q one another other

-- ---- a mark that is made

pub marked : (old : List Bool) (primary p : ℕ) → low primary ≡ 0 → is_lone (set old (primary / 0x1000000) true) p ≡ true → (p ≡ primary) ⊎ (is_lone old p ≡ true)
marked old primary p one_byte is =
    let parts = and_parts (low p == 0) _ is in
    let small : low p ≡ 0 = eqb-true (low p) 0 parts.0 in
    elim (cases_eq (p / 0x1000000) (primary / 0x1000000)) [
      | inl same ↦ inl (omega (arith, same, small, one_byte))
      | inr other ↦
          inr (and_from (low p == 0) _ parts.0 (sym (get_or-set_other old (primary / 0x1000000) (p / 0x1000000) true false other) ∙ parts.1))
    ]

-- ---- no marks

pub unmarked : (n l : ℕ) → get_or (replicate n false) l false ≡ false
unmarked n l = grind (arith, common_steps)

none_lone : (p : ℕ) → is_lone (replicate 256 false) p ≡ false
none_lone p = and_right (low p == 0) _ (unmarked 256 (p / 0x1000000))

pub no_marks : (c : Collation) → AreApart c (replicate 256 false)
no_marks c = λ p q one other differ. absurd (false≢true (sym (none_lone p) ∙ one))

-- ---- all marks

-- without a reordering weights are compared as they are
pub all_apart : (c : Collation) → c.tables.reordering ≡ None → AreApart c (replicate 256 true)
all_apart c none = λ p q one other differ same. differ (sym (as_it_is p) ∙ same ∙ as_it_is q)
  where
    as_it_is : (p : ℕ) → reorder c.tables p ≡ p
    as_it_is p = ap (λ (o : Option Reordering). reorder_by o p) none

pub apart_without : {A : Type 0} (f : A → Reordering) (o : Option A) (c : Collation) → is_some o ≡ false → option_map f o ≡ c.tables.reordering → AreApart c (replicate 256 true)
apart_without f None c none is = all_apart c (sym is)
apart_without f (Some x) c none is = absurd (true≢false none)

-- ---- one mark

pub first_mark : (c : Collation) (marks : List Bool) (first : ℕ) → ((p : ℕ) → is_lone marks p ≡ true → (p ≡ first) ⊎ (is_lone (replicate 256 false) p ≡ true)) → RiseTo c marks first
first_mark c marks first only =
    let itself : (p : ℕ) → is_lone marks p ≡ true → p ≡ first = λ p is.
    elim (only p is) [
      | inl same ↦ same
      | inr none ↦ absurd (false≢true (sym (none_lone p) ∙ none))
    ] in
    record {
      apart = λ p q one other differ. absurd (differ (itself p one ∙ sym (itself q other)));
      up_to = λ p is. let same = ap (reorder c.tables) (itself p is) in omega (arith, same);
    }

-- ---- one more

pub more_marks : (c : Collation) (old new : List Bool) (last above : ℕ) → RiseTo c old last → reorder c.tables last < reorder c.tables above
    → ((p : ℕ) → is_lone new p ≡ true → (p ≡ above) ⊎ (is_lone old p ≡ true)) → RiseTo c new above
more_marks c old new last above r rises only = record {
  apart = λ p q one other differ same.
      elim (only p one) [
        | inl first ↦ elim (only q other) [
          | inl second ↦ differ (first ∙ sym second)
          | inr second ↦ omega (arith, rises, r.up_to q second, same, ap (reorder c.tables) first)
        ]
        | inr first ↦ elim (only q other) [
          | inl second ↦ omega (arith, rises, r.up_to p first, same, ap (reorder c.tables) second)
          | inr second ↦ r.apart p q first second differ same
        ]
      ];
  up_to = λ p is.
      elim (only p is) [
        | inl same ↦ let e = ap (reorder c.tables) same in omega (arith, e)
        | inr there ↦ omega (arith, rises, r.up_to p there)
      ];
}

-- ---- a text with two weights before one with one

less_first : (o next : Ordering) → ordering_then o next ≡ Less → (o ≡ Equal → ⊥) → o ≡ Less
less_first Less next h other = refl
less_first Equal next h other = absurd (other refl)
less_first Greater next h other = h

two_before_one : (a b r : ℕ) (rest : List ℕ) → list_order (a ∷ b ∷ rest) (r ∷ []) ≡ Less → a < r
two_before_one a b r rest h =
    elim (less_cases a r (b ∷ rest) [] h) [
      | inl less ↦ less
      | inr tie ↦ absurd (wrong tie.1)
    ]
  where
    wrong : Greater ≡ Less → ⊥
    wrong e = cc

first_two : (f : ℕ → ℕ) (ps qs ts us : List ℕ) (x y : ℕ) → length ps ≡ 2 → length qs ≡ 1 → length us ≤ 1 → take (length ps) ts ≡ ps → take (length qs) us ≡ qs
    → x ≡ slice_index_or ps 0 x → y ≡ slice_index_or qs 0 y → list_order (map f ts) (map f us) ≡ Less → f x < f y
first_two f ps [] ts us x y two one few begins starts at there h = absurd (omega (arith, one))
first_two f ps (q ∷ q2 ∷ qs) ts us x y two one few begins starts at there h = absurd (omega (arith, one))
first_two f [] (q ∷ []) ts us x y two one few begins starts at there h = absurd (omega (arith, two))
first_two f (p ∷ []) (q ∷ []) ts us x y two one few begins starts at there h = absurd (omega (arith, two))
first_two f (p ∷ p2 ∷ p3 ∷ ps) (q ∷ []) ts us x y two one few begins starts at there h = absurd (omega (arith, two))
first_two f (p ∷ p2 ∷ []) (q ∷ []) [] us x y two one few begins starts at there h = absurd (omega (arith, ap length begins))
first_two f (p ∷ p2 ∷ []) (q ∷ []) (t ∷ []) us x y two one few begins starts at there h = absurd (omega (arith, ap length begins))
first_two f (p ∷ p2 ∷ []) (q ∷ []) (t ∷ t2 ∷ ts) [] x y two one few begins starts at there h = absurd (omega (arith, ap length starts))
first_two f (p ∷ p2 ∷ []) (q ∷ []) (t ∷ t2 ∷ ts) (u ∷ u2 ∷ us) x y two one few begins starts at there h = absurd (omega (arith, few))
first_two f (p ∷ p2 ∷ []) (q ∷ []) (t ∷ t2 ∷ ts) (u ∷ []) x y two one few begins starts at there h =
    let same : t ≡ x = ap (λ (l : List ℕ). get_or l 0 0) begins ∙ sym at in
    let other : u ≡ y = ap (λ (l : List ℕ). get_or l 0 0) starts ∙ sym there in
    let less : f t < f u = two_before_one (f t) (f t2) (f u) (map f ts) h in
    omega (arith, less, ap f same, ap f other)

unlike_lengths : (f : ℕ → ℕ) (ts us : List ℕ) → 2 ≤ length ts → length us ≤ 1 → map f ts ≡ map f us → ⊥
unlike_lengths f ts us two few same = omega (arith, two, few, ap length same, length-map ts f, length-map us f)

at_least_two : (ps ts : List ℕ) → length ps ≡ 2 → take (length ps) ts ≡ ps → 2 ≤ length ts
at_least_two ps ts two begins = omega (arith, two, ap length begins, length-take (length ps) ts)

pub rises_by : (c : Collation) (longer letter ps qs : List ℕ) (x y : ℕ) → length ps ≡ 2 → length qs ≡ 1 → length (lists_by c (nfd letter)).primaries ≤ 1
    → BeginsWith ps (lists_by c (nfd longer)).primaries → BeginsWith qs (lists_by c (nfd letter)).primaries → x ≡ slice_index_or ps 0 x → y ≡ slice_index_or qs 0 y
    → text_order c longer letter ≡ Less → IsComparedAsLess c (x, y)
unfolding text_order
rises_by c longer letter ps qs x y two one few begins starts at there less =
    let f = reorder c.tables in
    let ts = (lists_by c (nfd longer)).primaries in
    let us = (lists_by c (nfd letter)).primaries in
    let apart : primaries_order (compression_of c.tables) (lists_by c (nfd longer)) (lists_by c (nfd letter)) ≡ Equal → ⊥ = λ tie.
    unlike_lengths f ts us (at_least_two ps ts two begins) few (tied_lists (map f ts) (map f us) tie) in
    first_two f ps qs ts us x y two one few begins starts at there (less_first _ _ less apart)
