-- Elements in step, if secondary weights are read from the end.
use Rattle.std.proofs.Common.{◌≡◌, Bool, true, false, ◌==◌, arith, ℕ, List, [], ◌∷◌, length, map, reverse, Option, Some, None, IfSome, Ordering, Equal, refl, sym, ap, ap₂, subst, ◌∙◌}
use Rattle.std.proofs.lemmas.Bool.Decides.{nat_tests}
use Rattle.std.specs.Ordering.{nat_cmp, ordering_then}
use Rattle.unicode_normalization.specs.Forms.{nfd}
use Rattle.icu_table_entries.specs.Elements.{Element}
use Rattle.icu_table_entries.specs.ElementConditions.{separator_primary}
use Rattle.icu_order_levels.specs.ListOrder.{list_order, segments_order}
use Rattle.icu_order_levels.specs.Keys.{LevelLists, secondaries_order, cases_order, tertiaries_order, quaternaries_order}
use Rattle.icu_order_levels.specs.declared.forms.KeyForm.{KeyForm}
use Rattle.icu_order_levels.specs.declared.forms.TertiaryForm.{TertiaryForm}
use Rattle.icu_order_levels.proofs.Orderings.{then_assoc, then_equal}
use Rattle.icu_element_reading.specs.TextElements.{elements_after}
use Rattle.icu_element_cursor.specs.declared.facts_cursor.FactsCursor.{FactsCursor}
use Rattle.icu_element_cursor.specs.FactsCursors.{facts_give}
use Rattle.icu_order_texts.specs.weighting.Collations.{Collation}
use Rattle.icu_order_texts.specs.weighting.Forms.{form_by, last_variable_by}
use Rattle.icu_order_texts.specs.weighting.Handled.{HandledElement, stayed, stayed_elements}
use Rattle.icu_order_texts.specs.weighting.Levels.{parted, segments}
use Rattle.icu_order_texts.specs.declared.weighting.handled_element.Handled.TheVariants.{Stayed}
use Rattle.icu_order_texts.specs.TextOrder.{handled_by, lists_by, reading_by}
use Rattle.icu_collator.specs.declared.forward_levels.Level.TheVariants.{Tertiary}
use Rattle.icu_collator.specs.inner.BackwardInStep.{parts, order_from_end, backward_order, AreAsLong, SecondariesStep, StepsBackward, IsBackward}
use Rattle.icu_collator.specs.inner.ElementOrders.{later_levels_order}
use Rattle.icu_collator.specs.inner.FactsInStep.{StepsOn, plain_left}
use Rattle.icu_collator.specs.inner.InStep.{order_on}
use Rattle.icu_collator.specs.inner.LevelWeights.{level_weights}
use Rattle.icu_collator.proofs.FactsInStepLemmas.{plain_elements}
use Rattle.icu_collator.proofs.LevelLemmas.{tertiaries_read}
use Rattle.icu_collator.proofs.SegmentLemmas.{first_pair_last}

-- ---- two elements

-- an element without a secondary weight changes nothing
silent_parts : (x : Element) (hs : List HandledElement) → (x.primary == separator_primary) ≡ false → (x.secondary == 0) ≡ true → parts (stayed x ∷ hs) ≡ parts hs
unfolding parted
silent_parts x hs n z = rw (n, z) refl

-- one that has a weight comes first
weighed_parts : (x : Element) (hs : List HandledElement) → (x.primary == separator_primary) ≡ false → (x.secondary == 0) ≡ false
    → parts (stayed x ∷ hs) ≡ (x.secondary ∷ (parts hs).0, (parts hs).1)
unfolding parted
weighed_parts x hs n z = rw (n, z) refl

both_zero : (s t : ℕ) → (s == 0) ≡ true → (t == 0) ≡ true → nat_cmp s t ≡ Equal
both_zero s t e f =
    let z : s ≡ 0 = grind (e, arith, nat_tests) in
    let w : t ≡ 0 = grind (f, arith, nat_tests) in
    rw (z, w) refl

module _ (x y : Element) (o : Ordering) (n : (x.primary == separator_primary) ≡ false) (m : (y.primary == separator_primary) ≡ false) (is : o ≡ nat_cmp x.secondary y.secondary) where
  by_zeros : (a b : Bool) → (x.secondary == 0) ≡ a → (y.secondary == 0) ≡ b → a ≡ b → SecondariesStep x y o
  by_zeros true true e f same = λ hs ks second h.
      let l : parts (stayed x ∷ hs) ≡ parts hs = silent_parts x hs n e in
      let r : parts (stayed y ∷ ks) ≡ parts ks = silent_parts y ks m f in
      let ties : o ≡ Equal = is ∙ both_zero x.secondary y.secondary e f in (
        record {
          left = ap (λ p. p.1) l ∙ h.left;
          right = ap (λ p. p.1) r ∙ h.right;
          long = ap (λ p. length p.0) l ∙ h.long ∙ sym (ap (λ p. length p.0) r);
        },
        ap₂ (λ p q. ordering_then (list_order (reverse p.0) (reverse q.0)) second) l r
            ∙ ap (λ w. ordering_then (list_order (reverse (parts hs).0) (reverse (parts ks).0)) (ordering_then w second)) (sym ties),
      )
  by_zeros true false e f same = cc
  by_zeros false true e f same = cc
  by_zeros false false e f same = λ hs ks second h.
      let l : parts (stayed x ∷ hs) ≡ (x.secondary ∷ (parts hs).0, (parts hs).1) = weighed_parts x hs n e in
      let r : parts (stayed y ∷ ks) ≡ (y.secondary ∷ (parts ks).0, (parts ks).1) = weighed_parts y ks m f in (
        record {
          left = ap (λ p. p.1) l ∙ h.left;
          right = ap (λ p. p.1) r ∙ h.right;
          long = omega (arith, ap (λ p. length p.0) l, h.long, ap (λ p. length p.0) r);
        },
        ap₂ (λ p q. ordering_then (list_order (reverse p.0) (reverse q.0)) second) l r
            ∙ first_pair_last x.secondary y.secondary (parts hs).0 (parts ks).0 second h.long
            ∙ ap (λ w. ordering_then (list_order (reverse (parts hs).0) (reverse (parts ks).0)) (ordering_then w second)) (sym is),
      )

-- neither is a merge separator, and both have a secondary weight or neither
pub secondaries_step : (x y : Element) (o : Ordering) → (x.primary == separator_primary) ≡ false → (y.primary == separator_primary) ≡ false
    → (x.secondary == 0) ≡ (y.secondary == 0) → o ≡ nat_cmp x.secondary y.secondary → SecondariesStep x y o
secondaries_step x y o n m same is = by_zeros x y o n m is (x.secondary == 0) (y.secondary == 0) refl refl same

pub steps_backward : (form : TertiaryForm) (x y : Element) (o t : Ordering) → SecondariesStep x y o
    → ((hs ks : List HandledElement) → order_on (Tertiary form) (stayed x ∷ hs) (stayed y ∷ ks) ≡ ordering_then t (order_on (Tertiary form) hs ks))
    → StepsBackward form x y o t
steps_backward form x y o t step last = λ hs ks second third long.
    let s = step hs ks second long in
    (s.0, ap₂ ordering_then s.1 (ap (ordering_then third) (last hs ks) ∙ then_assoc third t (order_on (Tertiary form) hs ks)))

-- ---- two texts

nothing_long : AreAsLong [] []
unfolding parted
nothing_long = record { left = refl; right = refl; long = refl }

nothing_left : (form : TertiaryForm) (second third : Ordering) → backward_order form second third [] [] ≡ ordering_then second third
unfolding parted order_on level_weights
nothing_left form second third = ap (ordering_then second) (then_equal third)

module _ {T U : Type 0} (text : T → List ℕ) (other_text : U → List ℕ) (form : TertiaryForm) (left : FactsCursor T) (right : FactsCursor U) where
  -- if what is left is as long, so is the whole, which has the order of what is left after elements of these orders
  abbrev pub LeavesBackward : Ordering → Ordering → FactsCursor T → FactsCursor U → Type 0
  LeavesBackward second third one other =
      (b d : List ℕ) → (b' : List ℕ) × (d' : List ℕ)
      × (AreAsLong (plain_left text one b') (plain_left other_text other d')
      → AreAsLong (plain_left text left b) (plain_left other_text right d)
      × (backward_order form Equal Equal (plain_left text left b) (plain_left other_text right d)
      ≡ backward_order form second third (plain_left text one b') (plain_left other_text other d')))

  pub nothing_stepped : LeavesBackward Equal Equal left right
  nothing_stepped = λ b d. (b, d, λ h. (h, refl))

  module _ (one one' : FactsCursor T) (other other' : FactsCursor U) (second third : Ordering) (so_far : LeavesBackward second third one other) where
    pub stepped : (x y : Element) (o t : Ordering) → StepsOn text one (Some (Stayed x)) one' → StepsOn other_text other (Some (Stayed y)) other' → StepsBackward form x y o t
        → LeavesBackward (ordering_then o second) (ordering_then third t) one' other'
    stepped x y o t s s' by = λ b d.
        let at = so_far b d in
        let n = s at.0 in
        let m = s' at.1 in (
          n.0,
          m.0,
          λ long.
              let step = by (plain_left text one' n.0) (plain_left other_text other' m.0) second third long in
              let front : AreAsLong (plain_left text one at.0) (plain_left other_text other at.1) =
              subst (λ (hs : List HandledElement). AreAsLong hs (plain_left other_text other at.1)) (sym n.1)
              (subst (λ (ks : List HandledElement). AreAsLong (stayed x ∷ plain_left text one' n.0) ks) (sym m.1) step.0) in
              let whole = at.2 front in
              (whole.0, whole.1 ∙ ap₂ (backward_order form second third) n.1 m.1 ∙ step.1),
        )

    pub all_stepped : StepsOn text one None one' → StepsOn other_text other None other' → (o : Ordering) → o ≡ ordering_then second third
        → (b d : List ℕ) → AreAsLong (plain_left text left b) (plain_left other_text right d)
        × (o ≡ backward_order form Equal Equal (plain_left text left b) (plain_left other_text right d))
    all_stepped s s' o is b d =
        let at = so_far b d in
        let n = s at.0 in
        let m = s' at.1 in
        let ends : AreAsLong (plain_left text one at.0) (plain_left other_text other at.1) =
        subst (λ (hs : List HandledElement). AreAsLong hs (plain_left other_text other at.1)) (sym n.1)
        (subst (λ (ks : List HandledElement). AreAsLong [] ks) (sym m.1) nothing_long) in
        let whole = at.2 ends in
        (whole.0, is ∙ sym (whole.1 ∙ ap₂ (backward_order form second third) n.1 m.1 ∙ nothing_left form second third))

-- ---- the levels of a collator

-- lists that no merge separator parts are one segment each
one_segment : (hs ks : List HandledElement) → AreAsLong hs ks → order_from_end Equal hs ks ≡ segments_order (segments (stayed_elements hs)) (segments (stayed_elements ks))
one_segment hs ks h =
    sym (ap₂ (λ (ps qs : List (List ℕ)). segments_order (map reverse ((parts hs).0 ∷ ps)) (map reverse ((parts ks).0 ∷ qs))) h.left h.right)

module _ (collation : Collation) (t u : List ℕ) where
  abbrev form_of : KeyForm
  form_of = form_by collation

  abbrev left_lists : LevelLists
  left_lists = lists_by collation t

  abbrev right_lists : LevelLists
  right_lists = lists_by collation u

  segments_read : (f : TertiaryForm) (hs ks : List HandledElement) → hs ≡ handled_by collation t → ks ≡ handled_by collation u → IsBackward form_of f → AreAsLong hs ks
      → order_from_end Equal hs ks ≡ secondaries_order form_of.secondary left_lists right_lists
  unfolding lists_by
  segments_read f hs ks e g is h =
      one_segment hs ks h
      ∙ ap₂ (λ (x y : List HandledElement). segments_order (segments (stayed_elements x)) (segments (stayed_elements y))) e g
      ∙ ap (λ s. secondaries_order s left_lists right_lists) (sym is.secondary)

  pub backward_read : (f : TertiaryForm) (hs ks : List HandledElement) → hs ≡ handled_by collation t → ks ≡ handled_by collation u → IsBackward form_of f → AreAsLong hs ks
      → backward_order f Equal Equal hs ks ≡ later_levels_order collation t u
  unfolding later_levels_order order_on
  backward_read f hs ks e g is h =
      let last : Ordering = tertiaries_order form_of.tertiary left_lists right_lists in
      let none : quaternaries_order form_of.quaternary left_lists right_lists ≡ Equal = ap (λ q. quaternaries_order q left_lists right_lists) is.quaternary in
      let cases : cases_order form_of.cases left_lists right_lists ≡ Equal = ap (λ c. cases_order c left_lists right_lists) is.cases in
      let third : order_on (Tertiary f) hs ks ≡ last = ap₂ (order_on (Tertiary f)) e g ∙ tertiaries_read collation t u f is.tertiaries in
      let rest : order_on (Tertiary f) hs ks
      ≡ ordering_then (cases_order form_of.cases left_lists right_lists) (ordering_then last (quaternaries_order form_of.quaternary left_lists right_lists)) =
      third ∙ sym (then_equal last) ∙ ap (ordering_then last) (sym none)
      ∙ ap (λ c. ordering_then c (ordering_then last (quaternaries_order form_of.quaternary left_lists right_lists))) (sym cases) in
      ap₂ ordering_then (segments_read f hs ks e g is h) rest

-- what two cursors show, if it is known
pub backward_found : (collation : Collation) (none : last_variable_by collation ≡ 0) {T U : Type 0} (text : T → List ℕ) (other_text : U → List ℕ)
    (one : FactsCursor T) (other : FactsCursor U) (t u : List ℕ) (f : TertiaryForm) (found : Option Ordering)
    → facts_give text one [] ≡ elements_after (reading_by collation) [] (nfd t) → facts_give other_text other [] ≡ elements_after (reading_by collation) [] (nfd u)
    → IsBackward (form_by collation) f
    → IfSome found (λ o. AreAsLong (plain_left text one []) (plain_left other_text other []) × (o ≡ backward_order f Equal Equal (plain_left text one []) (plain_left other_text other [])))
    → IfSome found (λ o. o ≡ later_levels_order collation (nfd t) (nfd u))
backward_found collation none text other_text one other t u f None e g is h = tt
backward_found collation none text other_text one other t u f (Some o) e g is h =
    h.1 ∙ backward_read collation (nfd t) (nfd u) f (plain_left text one []) (plain_left other_text other [])
    (ap (map stayed) e ∙ sym (plain_elements collation none t)) (ap (map stayed) g ∙ sym (plain_elements collation none u)) is h.0
