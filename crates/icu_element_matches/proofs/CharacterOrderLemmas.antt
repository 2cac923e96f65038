-- The order of lists of characters, and which of them begin a text.
use Rattle.std.proofs.Common.{◌≡◌, ℕ, ◌<◌, ◌≤◌, Bool, true, false, List, [], ◌∷◌, length, refl, sym, ap, subst, ◌∙◌, arith, inl, inr, bytes_eq, Ordering, Less, Equal, Greater}
use Rattle.std.specs.Prelude.{nat_eq}
use Rattle.std.specs.List.{starts_with}
use Rattle.std.specs.Ordering.{is_lt, is_eq, ordering_reverse}
use Rattle.std.specs.Cmp.Lexicographic.{bytes_decides}
use Rattle.std.proofs.lemmas.Bool.{and_parts, and_from, eqb-true, eq-eqb, le-ltb, lt-ltb, cases_order, cases_Bool, false≢true}
use Rattle.std.proofs.lemmas.Cmp.{nat_list_cmp_total}
use Rattle.std.proofs.lemmas.Map.Text.{is_eq-slice_cmp}
use Rattle.icu_table_data.specs.Contexts.{is_before}
use Rattle.icu_element_matches.specs.inner.Beginnings.{common_beginning}

-- ---- the order

is_less : (o : Ordering) → is_lt o ≡ true → o ≡ Less
is_less Less h = refl
is_less Equal h = cc
is_less Greater h = cc

pub before_trans : (xs ys zs : List ℕ) → is_before xs ys ≡ true → is_before ys zs ≡ true → is_before xs zs ≡ true
before_trans xs ys zs h k = ap is_lt (nat_list_cmp_total.trans xs ys zs (is_less _ h) (is_less _ k))

pub not_before_back : (xs ys : List ℕ) → is_before xs ys ≡ true → is_before ys xs ≡ false
not_before_back xs ys h = ap is_lt (nat_list_cmp_total.antisymm ys xs ∙ ap ordering_reverse (is_less _ h))

not_itself : (b : Bool) → (b ≡ true → b ≡ false) → b ≡ false
not_itself true f = f refl
not_itself false f = refl

pub not_before_itself : (xs : List ℕ) → is_before xs xs ≡ false
not_before_itself xs = not_itself (is_before xs xs) (not_before_back xs xs)

not_tied : (o : Ordering) → is_lt o ≡ true → is_eq o ≡ false
not_tied Less h = refl
not_tied Equal h = cc
not_tied Greater h = cc

pub before_differs : (xs ys : List ℕ) → is_before xs ys ≡ true → bytes_eq xs ys ≡ false
before_differs xs ys h = sym (is_eq-slice_cmp xs ys) ∙ not_tied _ h

pub same_lists : (xs ys : List ℕ) → bytes_eq xs ys ≡ true → xs ≡ ys
same_lists xs ys h = (bytes_decides xs ys).0 h

-- lists that begin alike come in the order of what follows
pub same_head : (x : ℕ) (xs ys : List ℕ) → is_before (x ∷ xs) (x ∷ ys) ≡ is_before xs ys
same_head x xs ys = rw (le-ltb x x (omega arith), eq-eqb x x refl) refl

pub not_before_head : (x y : ℕ) (xs ys : List ℕ) → is_before (x ∷ xs) (y ∷ ys) ≡ false → y ≤ x
not_before_head x y xs ys h = elim (cases_order x y) [
  | inl same ↦ omega (arith, same)
  | inr (inl less) ↦ absurd (false≢true (sym h ∙ rw (lt-ltb x y less) refl))
  | inr (inr more) ↦ omega (arith, more)
]

-- ---- lists that begin a text

head_same : (x y : ℕ) (xs ys : List ℕ) → starts_with nat_eq (x ∷ xs) (y ∷ ys) ≡ true → (y ≡ x) × (starts_with nat_eq xs ys ≡ true)
head_same x y xs ys h =
    let parts = and_parts (nat_eq y x) (starts_with nat_eq xs ys) h in
    (eqb-true y x parts.0, parts.1)

-- one that begins a text doesn't come after it
pub beginning_not_after : (text mapping : List ℕ) → starts_with nat_eq text mapping ≡ true → is_before text mapping ≡ false
beginning_not_after [] [] h = refl
beginning_not_after (x ∷ xs) [] h = refl
beginning_not_after [] (y ∷ ys) h = cc
beginning_not_after (x ∷ xs) (y ∷ ys) h =
    let parts = head_same x y xs ys h in
    subst (λ z. is_before (x ∷ xs) (z ∷ ys) ≡ false) (sym parts.0) (same_head x xs ys ∙ beginning_not_after xs ys parts.1)

-- of two that begin a text the shorter one comes first
pub shorter_before : (text mapping other : List ℕ) → starts_with nat_eq text mapping ≡ true → starts_with nat_eq text other ≡ true → is_before other mapping ≡ true → length other < length mapping
shorter_before text [] [] h k b = cc
shorter_before text [] (z ∷ zs) h k b = cc
shorter_before text (y ∷ ys) [] h k b = omega arith
shorter_before [] (y ∷ ys) (z ∷ zs) h k b = cc
shorter_before (x ∷ xs) (y ∷ ys) (z ∷ zs) h k b =
    let p = head_same x y xs ys h in
    let q = head_same x z xs zs k in
    let e : z ≡ y = q.0 ∙ sym p.0 in
    let less : is_before zs ys ≡ true = sym (same_head y zs ys) ∙ subst (λ w. is_before (w ∷ zs) (y ∷ ys) ≡ true) e b in
    omega (arith, shorter_before xs ys zs p.1 q.1 less)

-- ---- what a mapping and a text have in common

-- a mapping that begins the text, and doesn't come after another mapping that doesn't come after the text, begins what
-- these have in common
pub begins_common : (mapping text other : List ℕ) → starts_with nat_eq text other ≡ true → is_before mapping other ≡ false → is_before text mapping ≡ false → starts_with nat_eq (common_beginning mapping text) other ≡ true
unfolding common_beginning
begins_common mapping text [] h k b = refl
begins_common mapping [] (z ∷ zs) h k b = cc
begins_common [] (x ∷ xs) (z ∷ zs) h k b = cc
begins_common (y ∷ ys) (x ∷ xs) (z ∷ zs) h k b =
    let q = head_same x z xs zs h in
    let low : z ≤ y = not_before_head y z ys zs k in
    let high : y ≤ x = not_before_head x y xs ys b in
    let e : y ≡ x = omega (arith, q.0) in
    let f : y ≡ z = e ∙ sym q.0 in
    let first : is_before ys zs ≡ false = sym (same_head z ys zs) ∙ subst (λ w. is_before (w ∷ ys) (z ∷ zs) ≡ false) f k in
    let second : is_before xs ys ≡ false = sym (same_head x xs ys) ∙ subst (λ w. is_before (x ∷ xs) (w ∷ ys) ≡ false) e b in
    let rest : starts_with nat_eq (common_beginning ys xs) zs ≡ true = begins_common ys xs zs q.1 first second in
    rw (eq-eqb y x e) (and_from _ _ (eq-eqb z x q.0) rest)

-- one that begins what a mapping and a text have in common begins the text
pub begins_whole : (mapping text other : List ℕ) → starts_with nat_eq (common_beginning mapping text) other ≡ true → starts_with nat_eq text other ≡ true
unfolding common_beginning
begins_whole mapping text [] h = refl
begins_whole [] text (z ∷ zs) h = cc
begins_whole (y ∷ ys) [] (z ∷ zs) h = cc
begins_whole (y ∷ ys) (x ∷ xs) (z ∷ zs) h = elim (cases_Bool (nat_eq y x)) [
  | inl e ↦
      let k : starts_with nat_eq (x ∷ common_beginning ys xs) (z ∷ zs) ≡ true = rw e at h in
      let parts = and_parts (nat_eq z x) (starts_with nat_eq (common_beginning ys xs) zs) k in
      and_from _ _ parts.0 (begins_whole ys xs zs parts.1)
  | inr e ↦
      let k : starts_with nat_eq [] (z ∷ zs) ≡ true = rw e at h in
      absurd (false≢true k)
]

-- that is shorter than the text, where the mapping doesn't come after it and doesn't begin it
pub common_shorter : (mapping text : List ℕ) → is_before text mapping ≡ false → starts_with nat_eq text mapping ≡ false → length (common_beginning mapping text) < length text
unfolding common_beginning
common_shorter [] text b h = cc
common_shorter (y ∷ ys) [] b h = cc
common_shorter (y ∷ ys) (x ∷ xs) b h = elim (cases_Bool (nat_eq y x)) [
  | inl e ↦
      let same : y ≡ x = eqb-true y x e in
      let second : is_before xs ys ≡ false = sym (same_head x xs ys) ∙ subst (λ w. is_before (x ∷ xs) (w ∷ ys) ≡ false) same b in
      let rest : starts_with nat_eq xs ys ≡ false = rw e at h in
      rw e (omega (arith, common_shorter ys xs second rest))
  | inr e ↦ rw e (omega arith)
]
