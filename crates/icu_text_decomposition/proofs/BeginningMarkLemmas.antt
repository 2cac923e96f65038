-- Marks class by class, and what begins with no lower class.
use Rattle.std.proofs.Common.{◌≡◌, ◌≤◌, ◌<◌, ◌==◌, ◌+◌, ◌-◌, ℕ, zero, suc, List, [], ◌∷◌, ◌++◌, drop, refl, sym, ap, subst, ◌∙◌, arith, inl, inr, append_assoc}
use Rattle.std.proofs.lemmas.Bool.{cases_Bool, cond-true, cond-false, cases_lt}
use Rattle.std.proofs.lemmas.Bool.Decides.{nat_tests}
use Rattle.ucd_normal.specs.CanonicalCombiningClass.{canonical_combining_class as class_of}
use Rattle.unicode_normalization.specs.Order.{canonical_order}
use Rattle.unicode_normalization.proofs.OrderLemmas.{canonical_order-nil}
use Rattle.icu_text_decomposition.specs.MarkClasses.{of_class, AreMarks}
use Rattle.icu_text_decomposition.specs.inner.BeginningMarks.{BeginsAbove}
use Rattle.icu_text_decomposition.specs.inner.FrontMarks.{front_marks, past_marks}
use Rattle.icu_text_decomposition.specs.inner.MarksLeft.{lists_from}
use Rattle.icu_text_decomposition.proofs.FrontMarkLemmas.{cases_class, past-nil, past-starter, past-mark, order-starter, front_none}

-- all are marks of this class
abbrev pub AllOf : ℕ → List ℕ → Type 0
AllOf k [] = Unit {0}
AllOf k (c ∷ cs) = (0 < class_of c) × (class_of c ≡ k) × AllOf k cs

pub all-of_class : (k n : ℕ) (ms : List ℕ) → AreMarks n ms → AllOf k (of_class k ms)
all-of_class k n [] marks = tt
all-of_class k n (m ∷ ms) marks =
    elim (cases_Bool (class_of m == k)) [
      | inl with ↦
          let same : class_of m ≡ k = grind (arith, nat_tests) in
          subst (AllOf k) (sym (cond-true _ _ _ with)) (marks.0, same, all-of_class k n ms marks.2)
      | inr without ↦ subst (AllOf k) (sym (cond-false _ _ _ without)) (all-of_class k n ms marks.2)
    ]

are_below : (j k : ℕ) (ms : List ℕ) → j < k → AllOf j ms → AreMarks k ms
are_below j k [] lt all = tt
are_below j k (m ∷ ms) lt all = let same = all.1 in (all.0, omega arith, are_below j k ms lt all.2)

begins_above : (j k : ℕ) (ms : List ℕ) → k ≤ j → AllOf j ms → BeginsAbove k ms
unfolding BeginsAbove
begins_above j k [] le all = tt
begins_above j k (m ∷ ms) le all = let same = all.1 in inr (omega arith)

below-append : (k : ℕ) (xs ys : List ℕ) → AreMarks k xs → AreMarks k ys → AreMarks k (xs ++ ys)
below-append k [] ys p q = q
below-append k (x ∷ xs) ys p q = (p.0, p.1, below-append k xs ys p.2 q)

pub above-append : (k : ℕ) (xs ys : List ℕ) → BeginsAbove k xs → BeginsAbove k ys → BeginsAbove k (xs ++ ys)
unfolding BeginsAbove
above-append k [] ys p q = q
above-append k (x ∷ xs) ys p q = p

pub above-nil : (k : ℕ) → BeginsAbove k []
unfolding BeginsAbove
above-nil k = tt

pub above-starter : (k c : ℕ) (cs : List ℕ) → class_of c ≤ 0 → BeginsAbove k (c ∷ cs)
unfolding BeginsAbove
above-starter k c cs start = inl start

pub above-higher : (k c : ℕ) (cs : List ℕ) → k ≤ class_of c → BeginsAbove k (c ∷ cs)
unfolding BeginsAbove
above-higher k c cs le = inr le

-- ---- what stands behind a run

past-above : (k : ℕ) (cs : List ℕ) → BeginsAbove k (canonical_order (past_marks cs))
past-above k [] = subst (BeginsAbove k) (sym (ap canonical_order past-nil ∙ canonical_order-nil)) (above-nil k)
past-above k (c ∷ cs) =
    elim (cases_class c) [
      | inl start ↦ subst (BeginsAbove k) (sym (ap canonical_order (past-starter c cs start) ∙ order-starter c cs start)) (above-starter k c (canonical_order cs) start)
      | inr mark ↦ subst (λ l. BeginsAbove k (canonical_order l)) (sym (past-mark c cs mark)) (past-above k cs)
    ]

pub behind-above : (k : ℕ) (cs : List ℕ) → front_marks cs ≡ [] → BeginsAbove k (canonical_order cs)
behind-above k cs none = subst (λ l. BeginsAbove k (canonical_order l)) (front_none cs none) (past-above k cs)

-- ---- the classes of lists

module _ (left : ℕ → List ℕ) (all : (k : ℕ) → AllOf k (left k)) where
  pub lists-below : (d j k : ℕ) → j + d ≤ k → AreMarks k (lists_from left d j)
  unfolding lists_from
  lists-below zero j k le = tt
  lists-below (suc d) j k le = below-append k _ _ (are_below j k _ (omega arith) (all j)) (lists-below d (suc j) k (omega arith))

  pub lists-above : (d j k : ℕ) → k ≤ j → BeginsAbove k (lists_from left d j)
  unfolding lists_from
  lists-above zero j k le = above-nil k
  lists-above (suc d) j k le = above-append k _ _ (begins_above j k _ le (all j)) (lists-above d (suc j) k (omega arith))

-- ---- one way to part a list

not_both : (k c : ℕ) (cs : List ℕ) → BeginsAbove k (c ∷ cs) → 0 < class_of c → class_of c < k → ⊥
unfolding BeginsAbove
not_both k c cs above mark below = elim above [ inl start ↦ absurd (omega arith) | inr high ↦ absurd (omega arith) ]

-- where a list is parted into marks below a class and what begins above it, the parts are those
pub parts_alike : (k : ℕ) (xs ys us vs : List ℕ) → xs ++ us ≡ ys ++ vs → AreMarks k xs → AreMarks k ys → BeginsAbove k us → BeginsAbove k vs → (xs ≡ ys) × (us ≡ vs)
parts_alike k [] [] us vs e p q r s = (refl, e)
parts_alike k [] (y ∷ ys) us vs e p q r s = absurd (not_both k y (ys ++ vs) (subst (BeginsAbove k) e r) q.0 q.1)
parts_alike k (x ∷ xs) [] us vs e p q r s = absurd (not_both k x (xs ++ us) (subst (BeginsAbove k) (sym e) s) p.0 p.1)
parts_alike k (x ∷ xs) (y ∷ ys) us vs e p q r s =
    let heads : x ≡ y = cc in
    let tails : xs ++ us ≡ ys ++ vs = cc in
    let rest = parts_alike k xs ys us vs tails p.2 q.2 r s in
    (ap (λ z. z ∷ xs) heads ∙ ap (λ l. y ∷ l) rest.0, rest.1)

-- a mark of a class before what begins above it stands in the class
pub first_of_class : (k mark : ℕ) (xs ys rest : List ℕ) → mark ∷ rest ≡ xs ++ ys → class_of mark ≡ k → 0 < k → BeginsAbove (suc k) ys → (more : List ℕ) × (xs ≡ mark ∷ more) × (rest ≡ more ++ ys)
first_of_class k mark [] ys rest e is positive above = absurd (not_both (suc k) mark rest (subst (BeginsAbove (suc k)) (sym e) above) (omega arith) (omega arith))
first_of_class k mark (x ∷ xs) ys rest e is positive above =
    let head : x ≡ mark = cc in
    let tail : rest ≡ xs ++ ys = cc in
    (xs, ap (λ z. z ∷ xs) head, tail)

-- marks of lower classes and a mark don't stand in what begins above its class
pub class_low : (class mark : ℕ) (passed rest : List ℕ) → BeginsAbove class (passed ++ mark ∷ rest) → 0 < class_of mark → AreMarks (class_of mark) passed → class ≤ class_of mark
class_low class mark [] rest above positive below =
    elim (cases_lt (class_of mark) class) [ inl lt ↦ absurd (not_both class mark rest above positive lt) | inr le ↦ le ]
class_low class mark (p ∷ passed) rest above positive below =
    let low = below.1 in
    elim (cases_lt (class_of p) class) [ inl lt ↦ absurd (not_both class p (passed ++ mark ∷ rest) above below.0 lt) | inr le ↦ omega arith ]

-- ---- parts of lists

pub lists-parts : (left : ℕ → List ℕ) (a b j : ℕ) → lists_from left (a + b) j ≡ lists_from left a j ++ lists_from left b (j + a)
unfolding lists_from
lists-parts left zero b j =
    let x : zero + b ≡ b = omega arith in
    let y : j ≡ j + zero = omega arith in
    ap (λ n. lists_from left n j) x ∙ ap (λ n. lists_from left b n) y
lists-parts left (suc a) b j =
    let x : suc a + b ≡ suc (a + b) = omega arith in
    let y : suc j + a ≡ j + suc a = omega arith in
    ap (λ n. lists_from left n j) x
    ∙ ap (λ l. left j ++ l) (lists-parts left a b (suc j))
    ∙ sym (append_assoc (left j) (lists_from left a (suc j)) (lists_from left b (suc j + a)))
    ∙ ap (λ n. (left j ++ lists_from left a (suc j)) ++ lists_from left b n) y

pub lists-same : (left later : ℕ → List ℕ) (d j : ℕ) → ((i : ℕ) → j ≤ i → i < j + d → left i ≡ later i) → lists_from left d j ≡ lists_from later d j
unfolding lists_from
lists-same left later zero j same = refl
lists-same left later (suc d) j same =
    ap (λ l. l ++ lists_from left d (suc j)) (same j (omega arith) (omega arith))
    ∙ ap (λ l. later j ++ l) (lists-same left later d (suc j) (λ i low high. same i (omega arith) (omega arith)))

-- the first class, and those above it
pub lists-first : (left : ℕ → List ℕ) (k : ℕ) → k < 256 → lists_from left (256 - k) k ≡ left k ++ lists_from left (256 - suc k) (suc k)
unfolding lists_from
lists-first left k small = let a : 256 - k ≡ suc (256 - suc k) = omega arith in ap (λ n. lists_from left n k) a

pub lists-none : (left : ℕ → List ℕ) → lists_from left (256 - 256) 256 ≡ []
unfolding lists_from
lists-none left = refl

-- parted at a class
pub lists-at : (left : ℕ → List ℕ) (class k : ℕ) → class ≤ k → k ≤ 256 → lists_from left (256 - class) class ≡ lists_from left (k - class) class ++ lists_from left (256 - k) k
lists-at left class k le limit =
    let a : 256 - class ≡ (k - class) + (256 - k) = omega arith in
    let b : class + (k - class) ≡ k = omega arith in
    ap (λ n. lists_from left n class) a ∙ lists-parts left (k - class) (256 - k) class ∙ ap (λ n. lists_from left (k - class) class ++ lists_from left (256 - k) n) b

pub drop_one_more : (n m : ℕ) (xs more : List ℕ) → drop n xs ≡ m ∷ more → drop (suc n) xs ≡ more
drop_one_more zero m [] more e = cc
drop_one_more zero m (x ∷ xs) more e = cc
drop_one_more (suc n) m [] more e = cc
drop_one_more (suc n) m (x ∷ xs) more e = drop_one_more n m xs more e
