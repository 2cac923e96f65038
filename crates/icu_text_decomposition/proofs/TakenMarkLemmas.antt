-- A mark is taken from what is left of a run that is read by a place for each class.
use Rattle.std.proofs.Common.{◌≡◌, ◌≢◌, ◌≤◌, ◌<◌, ◌+◌, ◌-◌, ℕ, zero, suc, List, [], ◌∷◌, ◌++◌, take, drop, length, length-append, refl, sym, ap, subst, ◌∙◌, arith, append_assoc}
use Rattle.std.proofs.lemmas.List.{take_more, take-append-drop}
use Rattle.ucd_normal.specs.CanonicalCombiningClass.{canonical_combining_class as class_of}
use Rattle.ucd_normal.proofs.BoundLemmas.{canonical_combining_class-le}
use Rattle.icu_text_decomposition.specs.MarkClasses.{AreMarks}
use Rattle.icu_text_decomposition.specs.UnreadTexts.{IsUnblocked, without_last}
use Rattle.icu_text_decomposition.specs.inner.BeginningMarks.{BeginsAbove}
use Rattle.icu_text_decomposition.specs.inner.MarksLeft.{lists_from}
use Rattle.icu_text_decomposition.proofs.BeginningMarkLemmas.{AllOf, lists-below, lists-above, above-append, parts_alike, first_of_class, class_low, lists-same, lists-first, lists-at, above-higher}

-- what is left of the classes from one on, and what stands behind the run
abbrev pub left_and_rest : (ℕ → List ℕ) → ℕ → List ℕ → List ℕ
left_and_rest left class rest = lists_from left (256 - class) class ++ rest

-- where a mark stands among what is left: it is the first of its class
pub record StandsAt (left : ℕ → List ℕ) (class mark : ℕ) (passed ahead rest : List ℕ) : Type 0 where
  pub more : List ℕ
  pub low : class ≤ class_of mark
  pub first : left (class_of mark) ≡ mark ∷ more
  pub before : passed ≡ lists_from left (class_of mark - class) class
  pub after : ahead ≡ more ++ left_and_rest left (suc (class_of mark)) rest

module _ (left : ℕ → List ℕ) (class mark : ℕ) (passed ahead rest : List ℕ) where
  pub stands_at : ((k : ℕ) → AllOf k (left k)) → ((k : ℕ) → BeginsAbove k rest) → left_and_rest left class rest ≡ passed ++ mark ∷ ahead → 0 < class_of mark → AreMarks (class_of mark) passed → StandsAt left class mark passed ahead rest
  stands_at all behind e positive below =
      let limit = canonical_combining_class-le mark in
      let k = class_of mark in
      let above_class = above-append class _ rest (lists-above left all (256 - class) class class (omega arith)) (behind class) in
      let low = class_low class mark passed ahead (subst (BeginsAbove class) e above_class) positive below in
      let parted : passed ++ mark ∷ ahead ≡ lists_from left (k - class) class ++ left_and_rest left k rest =
      sym e ∙ ap (λ l. l ++ rest) (lists-at left class k low (omega arith)) ∙ append_assoc (lists_from left (k - class) class) (lists_from left (256 - k) k) rest in
      let own : mark ∷ ahead ≡ left_and_rest left k rest =
      (parts_alike k passed (lists_from left (k - class) class) (mark ∷ ahead) (left_and_rest left k rest) parted below (lists-below left all (k - class) class k (omega arith))
      (above-higher k mark ahead (omega arith)) (above-append k _ rest (lists-above left all (256 - k) k k (omega arith)) (behind k))).1 in
      let before =
      (parts_alike k passed (lists_from left (k - class) class) (mark ∷ ahead) (left_and_rest left k rest) parted below (lists-below left all (k - class) class k (omega arith))
      (above-higher k mark ahead (omega arith)) (above-append k _ rest (lists-above left all (256 - k) k k (omega arith)) (behind k))).0 in
      let high = above-append (suc k) _ rest (lists-above left all (256 - suc k) (suc k) (suc k) (omega arith)) (behind (suc k)) in
      let found = first_of_class k mark (left k) (left_and_rest left (suc k) rest) ahead
      (own ∙ ap (λ l. l ++ rest) (lists-first left k (omega arith)) ∙ append_assoc (left k) (lists_from left (256 - suc k) (suc k)) rest) refl positive high in
      record { more = found.0; low = low; first = found.1; before = before; after = found.2 }

  -- it is taken
  module _ (s : StandsAt left class mark passed ahead rest) (later : ℕ → List ℕ) (own : later (class_of mark) ≡ s.more) (others : (i : ℕ) → i ≢ class_of mark → later i ≡ left i) where
    pub taken_ahead : left_and_rest later (class_of mark) rest ≡ ahead
    taken_ahead =
        let limit = canonical_combining_class-le mark in
        let k = class_of mark in
        ap (λ l. l ++ rest) (lists-first later k (omega arith))
        ∙ append_assoc (later k) (lists_from later (256 - suc k) (suc k)) rest
        ∙ ap (λ l. l ++ left_and_rest later (suc k) rest) own
        ∙ ap (λ l. s.more ++ (l ++ rest)) (lists-same later left (256 - suc k) (suc k) (λ i from to. others i (λ same. absurd (omega arith))))
        ∙ sym s.after

    pub taken_left : left_and_rest later class rest ≡ passed ++ ahead
    taken_left =
        let limit = canonical_combining_class-le mark in
        let k = class_of mark in
        let low = s.low in
        ap (λ l. l ++ rest) (lists-at later class k low (omega arith))
        ∙ append_assoc (lists_from later (k - class) class) (lists_from later (256 - k) k) rest
        ∙ ap (λ l. l ++ left_and_rest later k rest) (lists-same later left (k - class) class (λ i from to. others i (λ same. absurd (omega arith))))
        ∙ ap (λ l. l ++ left_and_rest later k rest) (sym s.before)
        ∙ ap (λ l. passed ++ l) taken_ahead
