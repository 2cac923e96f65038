-- Places ahead.
use Rattle.std.proofs.Common.{◌≡◌, ◌≤◌, ◌<◌, ◌+◌, ◌-◌, max, ℕ, suc, true, false, nat_le, List, [], ◌∷◌, ◌++◌, take, length, Option, Some, None, IfSome, refl, sym, ap, subst, ◌∙◌, arith, inl, inr, append_assoc}
use Rattle.std.proofs.lemmas.Bool.{cond-true, cond-false, cases_lt}
use Rattle.std.proofs.lemmas.Bool.Decides.{nat_tests}
use Rattle.ucd_normal.specs.CanonicalCombiningClass.{canonical_combining_class as class_of}
use Rattle.icu_text_decomposition.specs.declared.class_places.ClassPlaces.{ClassPlaces}
use Rattle.icu_text_decomposition.specs.declared.run_text.RunText.{RunText}
use Rattle.icu_text_decomposition.specs.declared.taking.Look.{Look}
use Rattle.icu_text_decomposition.specs.declared.taking.Look.TheVariants.{Class}
use Rattle.icu_text_decomposition.specs.MarkClasses.{AreMarks}
use Rattle.icu_text_decomposition.specs.UnreadTexts.{marks_up_to}
use Rattle.icu_text_decomposition.specs.inner.BeginningMarks.{BeginsAbove}
use Rattle.icu_text_decomposition.specs.inner.ClassPlaces.{class_left, marks_from}
use Rattle.icu_text_decomposition.specs.inner.MarksLeft.{lists_from}
use Rattle.icu_text_decomposition.specs.inner.OrderedParts.{order_left}
use Rattle.icu_text_decomposition.specs.inner.RunTexts.{run_text_left, EndsRun}
use Rattle.icu_text_decomposition.specs.inner.Taking.{left_behind, EndsInList, IsLook}
use Rattle.icu_text_decomposition.proofs.BeginningMarkLemmas.{lists-at, lists-below, lists-above, above-append}
use Rattle.icu_text_decomposition.proofs.FrontMarkLemmas.{no_starter, starter}
use Rattle.icu_text_decomposition.proofs.LookLemmas.{end_from}
use Rattle.icu_text_decomposition.proofs.ClassPlaceLemmas.{class_all}
use Rattle.icu_text_decomposition.proofs.RunTextLemmas.{rest_above}

-- ---- marks up to a class

pub marks_up_to-front : (k : ℕ) (xs ys : List ℕ) → AreMarks (k + 1) xs → BeginsAbove (k + 1) ys → marks_up_to k (xs ++ ys) ≡ xs
unfolding marks_up_to BeginsAbove
marks_up_to-front k [] [] below above = refl
marks_up_to-front k [] (y ∷ ys) below above =
    elim above [
      | inl start ↦ cond-true _ _ _ (starter y start)
      | inr high ↦
          let mark : 0 < class_of y = omega arith in
          let no : nat_le (class_of y) k ≡ false = grind (arith, nat_tests) in
          cond-false _ _ _ (no_starter y mark) ∙ cond-false _ _ _ no
    ]
marks_up_to-front k (x ∷ xs) ys below above =
    let low = below.1 in
    let yes : nat_le (class_of x) k ≡ true = grind (arith, nat_tests) in
    cond-false _ _ _ (no_starter x below.0) ∙ cond-true _ _ _ yes ∙ ap (λ l. x ∷ l) (marks_up_to-front k xs ys below.2 above)

-- what is parted into marks up to a class and what begins above it
pub marks_parted : (k : ℕ) (xs front ahead : List ℕ) → xs ≡ front ++ ahead → AreMarks (k + 1) front → BeginsAbove (k + 1) ahead → xs ≡ marks_up_to k xs ++ ahead
marks_parted k xs front ahead e below above = e ∙ ap (λ l. l ++ ahead) (sym (ap (marks_up_to k) e ∙ marks_up_to-front k front ahead below above))

-- ---- places ahead

pub class_look : {T : Type 0} (text : T → List ℕ) (k : ℕ) → k ≤ 256 → IsLook text (Class k)
class_look text k le = record { class = le; rest = λ p e. cc }

module _ {T : Type 0} (text : T → List ℕ) where
  -- from a class on, behind the marks of lower ones
  module _ (t : RunText T) (k : ℕ) (low : t.class ≤ k) (limit : k ≤ 256) where
    lower : List ℕ
    lower = lists_from (class_left text t.places) (k - t.class) t.class

    parted_at : run_text_left text t ≡ lower ++ (marks_from text t.places k ++ order_left text t.rest)
    unfolding lower
    parted_at = ap (λ l. l ++ order_left text t.rest) (lists-at (class_left text t.places) t.class k low limit) ∙ append_assoc lower (marks_from text t.places k) (order_left text t.rest)

    pub class_behind : EndsInList (run_text_left text t) (marks_from text t.places k ++ order_left text t.rest)
    class_behind = end_from _ lower _ parted_at

    above_class : (j : ℕ) → EndsRun text t → j ≤ k → BeginsAbove j (marks_from text t.places k ++ order_left text t.rest)
    above_class j ends le = above-append j _ _ (lists-above (class_left text t.places) (class_all text t.places) (256 - k) k j le) (rest_above text t ends j)

    lower_below : (j : ℕ) → k ≤ j → AreMarks j lower
    unfolding lower
    lower_below j le = lists-below (class_left text t.places) (class_all text t.places) (k - t.class) t.class j (omega arith)

    none_lower : k ≤ t.class → (j : ℕ) → AreMarks j lower
    unfolding lower lists_from
    none_lower high j = let none : k - t.class ≡ 0 = omega arith in subst (λ n. AreMarks j (lists_from (class_left text t.places) n t.class)) (sym none) tt

    -- those are the marks up to a class
    pub passes_up_to : (class : ℕ) → EndsRun text t → k ≡ max t.class (class + 1) → run_text_left text t ≡ marks_up_to class (run_text_left text t) ++ (marks_from text t.places k ++ order_left text t.rest)
    passes_up_to class ends is =
        let above : class + 1 ≤ k = omega arith in
        marks_parted class _ lower _ parted_at
        (elim (cases_lt t.class k) [
          | inl some ↦ let same : k ≤ class + 1 = omega arith in lower_below (class + 1) same
          | inr none ↦ none_lower none (class + 1)
        ])
        (above_class (class + 1) ends above)
