-- Texts whose run of marks at the front is read by a place for each class.
use Rattle.std.proofs.Common.{◌≡◌, ◌≢◌, ◌<◌, ◌+◌, ◌-◌, ℕ, suc, List, [], ◌∷◌, ◌++◌, take, drop, sym, ap, subst, ◌∙◌, arith, append_assoc}
use Rattle.std.proofs.lemmas.List.{take-append-drop, drop_more}
use Rattle.std.proofs.lemmas.Option.{get_or_from_slice_get, slice_get_within}
use Rattle.ucd_normal.specs.CanonicalCombiningClass.{canonical_combining_class as class_of}
use Rattle.unicode_normalization.specs.Order.{canonical_order}
use Rattle.icu_text_decomposition.specs.declared.class_places.ClassPlaces.{ClassPlaces}
use Rattle.icu_text_decomposition.specs.declared.run_text.RunText.{RunText}
use Rattle.icu_text_decomposition.specs.MarkClasses.{of_class}
use Rattle.icu_text_decomposition.specs.UnreadTexts.{IsUnblocked, without_last}
use Rattle.icu_text_decomposition.specs.inner.BeginningMarks.{BeginsAbove}
use Rattle.icu_text_decomposition.specs.inner.ClassPlaces.{places_of, class_left, place_left, marks_from}
use Rattle.icu_text_decomposition.specs.inner.FrontMarks.{front_marks, past_marks}
use Rattle.icu_text_decomposition.specs.inner.MarksLeft.{lists_from, left_of_pass}
use Rattle.icu_text_decomposition.specs.inner.OrderedParts.{left_at, order_left}
use Rattle.icu_text_decomposition.specs.inner.Parts.{parts_left}
use Rattle.icu_text_decomposition.specs.inner.RunTexts.{run_text_left, EndsRun, IsRunText}
use Rattle.icu_text_decomposition.proofs.BeginningMarkLemmas.{behind-above, lists-same}
use Rattle.icu_text_decomposition.proofs.ClassPlaceLemmas.{class_all, from_end}
use Rattle.icu_text_decomposition.proofs.TakenMarkLemmas.{StandsAt, stands_at, taken_left, taken_ahead}

-- a list at an unblocked mark
unblocked_parts : (xs : List ℕ) (passed mark : ℕ) → IsUnblocked xs passed mark → xs ≡ take (passed - 1) xs ++ mark ∷ drop passed xs
unblocked_parts xs passed mark free =
    let n = passed - 1 in
    let some = free.some in
    let count : n + 1 ≡ passed = omega arith in
    sym (take-append-drop n xs)
    ∙ ap (λ l. take n xs ++ l)
    (drop_more xs n mark (slice_get_within xs n mark free.last)
    ∙ ap (λ x. x ∷ drop (n + 1) xs) (get_or_from_slice_get xs n mark mark free.last)
    ∙ ap (λ m. mark ∷ drop m xs) count)

module _ {T : Type 0} (text : T → List ℕ) where
  -- where no run is read by places
  pub rest_only : (p : ClassPlaces T) (class : ℕ) (rest : List ℕ) → class ≡ 256 → marks_from text p class ++ rest ≡ rest
  rest_only p class rest none = ap (λ k. marks_from text p k ++ rest) none ∙ ap (λ l. l ++ rest) (from_end text p)

  pub rest_above : (t : RunText T) → EndsRun text t → (k : ℕ) → BeginsAbove k (order_left text t.rest)
  rest_above t ends k = subst (BeginsAbove k) (sym (ap (left_at text (parts_left text t.rest.parts)) ends.no_pass)) (behind-above k _ ends.no_mark)

  pub reads_mark : (old new : ClassPlaces T) (from k m : ℕ) (cs rest : List ℕ) → marks_from text old from ≡ m ∷ (cs ++ marks_from text old (k + 1)) → marks_from text new k ≡ cs ++ marks_from text old (k + 1)
      → marks_from text old from ++ rest ≡ m ∷ (marks_from text new k ++ rest)
  reads_mark old new from k m cs rest some on = ap (λ l. l ++ rest) some ∙ ap (λ l. m ∷ (l ++ rest)) (sym on)

  pub begun : (places later : ClassPlaces T) (run at end : List ℕ) (class : ℕ) → class < 256 → ((k : ℕ) → class < k → class_left text places k ≡ of_class k (front_marks run)) → end ≡ past_marks run
      → marks_from text later class ≡ of_class class (front_marks at) ++ marks_from text places (class + 1) → marks_from text later class ++ canonical_order end ≡ left_of_pass run at class
  unfolding left_of_pass
  begun places later run at end class small above past on =
      let e : class + 1 ≡ suc class = omega arith in
      let d : 256 - suc class ≡ 255 - class = omega arith in
      let own = of_class class (front_marks at) in
      let left : ℕ → List ℕ = λ k. of_class k (front_marks run) in
      ap (λ l. l ++ canonical_order end)
      (on ∙ ap (λ n. own ++ marks_from text places n) e
      ∙ ap (λ l. own ++ l)
      (lists-same (class_left text places) left (256 - suc class) (suc class) (λ i low high. above i (omega arith))
      ∙ ap (λ n. lists_from left n (suc class)) d))
      ∙ append_assoc own (lists_from left (255 - class) (suc class)) (canonical_order end)
      ∙ ap (λ l. own ++ (lists_from left (255 - class) (suc class) ++ canonical_order l)) past

  -- ---- a mark is taken

  module _ (t : RunText T) (is : IsRunText text t) (places_on : t.class < 256) (passed mark : ℕ) (free : IsUnblocked (run_text_left text t) passed mark) where
    pub stands_in : StandsAt (class_left text t.places) t.class mark (take (passed - 1) (run_text_left text t)) (drop passed (run_text_left text t)) (order_left text t.rest)
    stands_in =
        stands_at (class_left text t.places) t.class mark _ _ (order_left text t.rest) (class_all text t.places) (rest_above t (is.ends places_on))
        (unblocked_parts (run_text_left text t) passed mark free) free.is_mark free.before

    -- a mark of its class is left
    pub not_gone : class_left text t.places (class_of mark) ≡ [] → ⊥
    not_gone none = let some = stands_in.first in cc

    module _ (new : ClassPlaces T) (m : ℕ) (cs : List ℕ) (some : class_left text t.places (class_of mark) ≡ m ∷ cs) (own : class_left text new (class_of mark) ≡ cs)
        (others : (i : ℕ) → i ≢ class_of mark → places_of new i ≡ places_of t.places i) where
      more_is : class_left text new (class_of mark) ≡ stands_in.more
      more_is = let first = stands_in.first in let rest : cs ≡ stands_in.more = cc in own ∙ rest

      pub takes_left : marks_from text new t.class ++ order_left text t.rest ≡ without_last (run_text_left text t) passed
      takes_left = taken_left (class_left text t.places) t.class mark _ _ (order_left text t.rest) stands_in (class_left text new) more_is (λ i other. ap (place_left text i) (others i other))

      pub takes_ahead : marks_from text new (class_of mark) ++ order_left text t.rest ≡ drop passed (run_text_left text t)
      takes_ahead = taken_ahead (class_left text t.places) t.class mark _ _ (order_left text t.rest) stands_in (class_left text new) more_is (λ i other. ap (place_left text i) (others i other))
