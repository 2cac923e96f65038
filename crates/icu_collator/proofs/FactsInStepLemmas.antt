-- Two texts of which characters are read, gone through in step, where no element is variable.
use Rattle.std.proofs.Common.{◌≡◌, Bool, false, is_some, ℕ, List, [], ◌∷◌, ◌++◌, map, Option, Some, None, IfSome, Ordering, Less, Equal, Greater, option_map, refl, sym, ap, ap₂, subst, ◌∙◌}
use Rattle.std.proofs.lemmas.List.{map-append}
use Rattle.std.specs.Ordering.{ordering_then}
use Rattle.unicode_normalization.specs.Forms.{nfd}
use Rattle.icu_table_entries.specs.Elements.{Element}
use Rattle.icu_order_levels.specs.ListOrder.{list_order}
use Rattle.icu_order_levels.specs.Keys.{characters_order}
use Rattle.icu_order_levels.specs.declared.forms.TertiaryForm.{TertiaryForm}
use Rattle.icu_order_levels.proofs.Order.{same_front}
use Rattle.icu_order_levels.proofs.Orderings.{then_equal}
use Rattle.icu_element_reading.proofs.boundaries.CutPartLemmas.{nothing, pieces_part}
use Rattle.icu_element_reading.specs.TextElements.{Reading, elements_of, elements_after}
use Rattle.icu_element_reading.specs.boundaries.Places.{BeginsAtBoundary}
use Rattle.icu_element_cursor.specs.declared.facts_cursor.FactsCursor.{FactsCursor}
use Rattle.icu_element_cursor.specs.FactsCursors.{facts_give, facts_reading, GivesNextOrEnds, ReadsText}
use Rattle.icu_order_texts.specs.weighting.Collations.{Collation}
use Rattle.icu_order_texts.specs.weighting.Forms.{form_by, last_variable_by}
use Rattle.icu_order_texts.specs.weighting.Handled.{HandledElement, stayed}
use Rattle.icu_order_texts.specs.weighting.HandledSources.{handled_as}
use Rattle.icu_order_texts.specs.declared.weighting.handled_element.Handled.{Handled}
use Rattle.icu_order_texts.specs.declared.weighting.handled_element.Handled.TheVariants.{Stayed}
use Rattle.icu_order_texts.specs.TextOrder.{handled_by, lists_by, reading_by, text_order}
use Rattle.icu_collator.specs.declared.forward_levels.Level.{Level}
use Rattle.icu_collator.specs.declared.forward_levels.Level.TheVariants.{Primary, Tertiary}
use Rattle.icu_table_provider.specs.CollatorTables.{reorder_by}
use Rattle.icu_table_provider.specs.StoredTables.{reordering_of}
use Rattle.icu_table_provider.specs.declared.reordering.CollationReordering.{CollationReordering}
use Rattle.icu_collator.specs.inner.ElementOrders.{ReadsElementsAlone, elements_order, leading_order}
use Rattle.icu_collator.specs.inner.FactsInStep.{AreCut, PassesCommon, StepsOn, WeighsOn, plain_left, weights_from}
use Rattle.icu_collator.specs.inner.InStep.{from_first, order_on, three_order, three_levels, ThreeLevels, IsThreeLevel, StepBoth, StepsBy, DecidesOn}
use Rattle.icu_collator.specs.inner.LevelWeights.{read_as, weight_in, level_weights}
use Rattle.icu_collator.proofs.InStepLemmas.{tied_order, same_order, steps_by, step_both, first_decides, second_decides, three_read, weights_of_first, no_weight_of_first}
use Rattle.icu_collator.proofs.OrdersInTurn.{all_stay, order_in_two}

-- ---- one element

-- an element that comes next stays
pub steps_on : {T : Type 0} (text : T → List ℕ) (old new : FactsCursor T) (e : Element) → GivesNextOrEnds text old (Some e) new → StepsOn text old (Some (Stayed e)) new
steps_on text old new e h = λ before. let next = h.1 before in (next.0, ap (map stayed) next.1)

pub steps_end : {T : Type 0} (text : T → List ℕ) (old new : FactsCursor T) → GivesNextOrEnds text old None new → StepsOn text old None new
steps_end text old new h = λ before. (before, ap (map stayed) (h.1 before))

-- ---- two texts

pub same_found : (found : Option Ordering) (x y : Ordering) → x ≡ y → IfSome found (λ o. o ≡ x) → IfSome found (λ o. o ≡ y)
same_found found x y e h = subst (λ (w : Ordering). IfSome found (λ o. o ≡ w)) e h

-- nothing was found
pub none_found : (found : Option Ordering) (b : Bool) → b ≡ is_some found → b ≡ false → found ≡ None
none_found None b is unset = refl
none_found (Some o) b is unset = cc

-- elements that decide on the first level decide
pub decided_on_first : (levels : ThreeLevels) (third : Ordering) (us vs : List HandledElement) (h k : Option Handled) (found : Option Ordering) → IfSome found (λ o. DecidesOn levels.first h k o)
    → IfSome found (λ o. o ≡ three_order levels third (from_first h us) (from_first k vs))
decided_on_first levels third us vs h k None decides = tt
decided_on_first levels third us vs h k (Some o) decides =
    let d = decides us vs in
    first_decides levels third (from_first h us) (from_first k vs) o d.0 d.1

-- the same element in front of both changes nothing
pub same_steps : (levels : ThreeLevels) (h : Handled) → StepsBy levels h h Equal
same_steps levels h = record {
  on_first = λ hs ks. tied_order levels.first (handled_as h) (handled_as h) hs ks refl;
  on_second = λ hs ks. tied_order levels.second (handled_as h) (handled_as h) hs ks refl;
  on_third = λ hs ks. tied_order levels.third (handled_as h) (handled_as h) hs ks refl;
}

-- nor do elements of the same primary and the same secondary, but for the third level
pub alike_steps : (reordering : Option CollationReordering) (form : TertiaryForm) (x y : Element) (r : Option Ordering) → x.primary ≡ y.primary → x.secondary ≡ y.secondary
    → IfSome r (λ o. (hs ks : List HandledElement) → order_on (Tertiary form) (stayed x ∷ hs) (stayed y ∷ ks) ≡ ordering_then o (order_on (Tertiary form) hs ks))
    → IfSome r (λ o. StepsBy (three_levels (Primary reordering) form) (Stayed x) (Stayed y) o)
alike_steps reordering form x y r e f h =
    steps_by (three_levels (Primary reordering) form) (Stayed x) (Stayed y) r
    (ap (λ (p : ℕ). read_as p (reorder_by (option_map reordering_of reordering) p)) e)
    (ap (λ (s : ℕ). read_as s s) f)
    h

-- two elements that were given step both
pub both_given : (levels : ThreeLevels) (h k : Option Handled) (x y : Handled) (found : Option Ordering) → h ≡ Some x → k ≡ Some y
    → IfSome found (λ o. StepsBy levels x y o) → IfSome found (λ o. StepBoth levels h k o)
both_given levels h k x y None e f steps = tt
both_given levels h k x y (Some o) e f steps =
    subst (λ (a : Option Handled). StepBoth levels a k o) (sym e) (subst (λ (b : Option Handled). StepBoth levels (Some x) b o) (sym f) steps)

both_nothing : (levels : ThreeLevels) (third : Ordering) → three_order levels third [] [] ≡ third
both_nothing levels third =
    rw (same_order levels.first [] [] refl, same_order levels.second [] [] refl, same_order levels.third [] [] refl) (then_equal third)

module _ {T U : Type 0} (text : T → List ℕ) (other_text : U → List ℕ) where
  -- what is left orders as the whole, after elements that have this order on the third level and tie on the others
  abbrev pub LeavesOrder : ThreeLevels → FactsCursor T → FactsCursor U → Ordering → FactsCursor T → FactsCursor U → Type 0
  LeavesOrder levels left right third one other =
      (b d : List ℕ) → (b' : List ℕ) × (d' : List ℕ)
      × (three_order levels Equal (plain_left text left b) (plain_left other_text right d)
      ≡ three_order levels third (plain_left text one b') (plain_left other_text other d'))

  pub nothing_compared : (levels : ThreeLevels) (left : FactsCursor T) (right : FactsCursor U) → LeavesOrder levels left right Equal left right
  nothing_compared levels left right = λ b d. (b, d, refl)

  module _ (levels : ThreeLevels) (left one one' : FactsCursor T) (right other other' : FactsCursor U) (third : Ordering) (h k : Option Handled)
      (so_far : LeavesOrder levels left right third one other) (s : StepsOn text one h one') (t : StepsOn other_text other k other') where
    from_pair : (b d : List ℕ) → (b' : List ℕ) × (d' : List ℕ)
        × (three_order levels Equal (plain_left text left b) (plain_left other_text right d)
        ≡ three_order levels third (from_first h (plain_left text one' b')) (from_first k (plain_left other_text other' d')))
    from_pair b d =
        let at = so_far b d in
        let n = s at.0 in
        let m = t at.1 in
        (n.0, m.0, at.2 ∙ ap₂ (three_order levels third) n.1 m.1)

    -- both gave an element, and those are in step
    pub both_step : (o : Ordering) → StepBoth levels h k o → LeavesOrder levels left right (ordering_then third o) one' other'
    both_step o by = λ b d.
        let at = from_pair b d in
        let us = plain_left text one' at.0 in
        let vs = plain_left other_text other' at.1 in
        (at.0, at.1, at.2 ∙ step_both levels third (from_first h us) (from_first k vs) us vs h k o (λ level. refl) by)

    pub both_ended : h ≡ None → k ≡ None → (b d : List ℕ) → third ≡ three_order levels Equal (plain_left text left b) (plain_left other_text right d)
    both_ended none none' b d =
        let at = from_pair b d in
        sym (at.2
        ∙ ap₂ (λ (x y : Option Handled). three_order levels third (from_first x (plain_left text one' at.0)) (from_first y (plain_left other_text other' at.1))) none none'
        ∙ both_nothing levels third)

    -- they go on out of step
    pub step_apart : (found : Option Ordering)
        → ((b d : List ℕ) (t : Ordering) → IfSome found (λ o. o ≡ three_order levels t (from_first h (plain_left text one' b)) (from_first k (plain_left other_text other' d))))
        → (b d : List ℕ) → IfSome found (λ o. o ≡ three_order levels Equal (plain_left text left b) (plain_left other_text right d))
    step_apart found by b d =
        let at = from_pair b d in
        same_found found _ _ (sym at.2) (by at.0 at.1 third)

-- where the first level ties, these elements decide on the second one
pub out_decides : (levels : ThreeLevels) (third : Ordering) (hs ks us vs : List HandledElement) (one other : Option Handled) (found : Option Ordering) → hs ≡ from_first one us → ks ≡ from_first other vs
    → order_on levels.first hs ks ≡ Equal → IfSome found (λ o. DecidesOn levels.second one other o) → IfSome found (λ o. o ≡ three_order levels third hs ks)
out_decides levels third hs ks us vs one other None e f ties h = tt
out_decides levels third hs ks us vs one other (Some o) e f ties h =
    let d = h us vs in
    second_decides levels third hs ks o ties (d.0 ∙ sym (ap₂ (order_on levels.second) e f), d.1)

-- ---- common elements

-- common elements in front change nothing on a level
pub common_on : (level : Level) (ms hs ks : List HandledElement) → order_on level (ms ++ hs) (ms ++ ks) ≡ order_on level hs ks
common_on level [] hs ks = refl
common_on level (m ∷ ms) hs ks = tied_order level m m (ms ++ hs) (ms ++ ks) refl ∙ common_on level ms hs ks

common_three : (levels : ThreeLevels) (third : Ordering) (ms hs ks : List HandledElement) → three_order levels third (ms ++ hs) (ms ++ ks) ≡ three_order levels third hs ks
common_three levels third ms hs ks = rw (common_on levels.first ms hs ks, common_on levels.second ms hs ks, common_on levels.third ms hs ks) refl

-- the beginning of a text that begins at a boundary gives the same after any characters
front_anew : (reading : Reading) (m r : List ℕ) → BeginsAtBoundary reading (m ++ r) → (b d : List ℕ) → elements_after reading b (nfd m) ≡ elements_after reading d (nfd m)
front_anew reading [] r h b d = nothing reading b ∙ sym (nothing reading d)
front_anew reading (c ∷ m) r h b d = h b d [] m ∙ ap (λ (es : List Element). es ++ elements_after reading d (nfd (c ∷ m))) (nothing reading b)

module _ {T U : Type 0} (text : T → List ℕ) (other_text : U → List ℕ) (left : FactsCursor T) (right : FactsCursor U) where
  pub nothing_passed : PassesCommon text other_text left right left right
  nothing_passed = λ b d. (b, d, [], refl, refl)

  pub passes_cut : (t : T) (u : U) (r : T) (s : U) (one : FactsCursor T) (other : FactsCursor U) → facts_reading left ≡ facts_reading right → ReadsText text left t → ReadsText other_text right u
      → BeginsAtBoundary (facts_reading left) (text t) → AreCut text other_text left right t u r s → ReadsText text one r → ReadsText other_text other s
      → facts_reading one ≡ facts_reading left → facts_reading other ≡ facts_reading right → PassesCommon text other_text left right one other
  passes_cut t u r s one other same reads other_reads begins cut reads' other_reads' kept other_kept = λ b d.
      let m = cut.common in
      let ms = elements_after (facts_reading left) b (nfd m) in
      let first : facts_give text left b ≡ ms ++ facts_give text one [] =
      reads b
      ∙ pieces_part (facts_reading left) b [] (text t) m (text r) (record { parts = cut.left_parts; boundary = cut.left_cut })
      ∙ ap (λ (es : List Element). ms ++ es) (sym (reads' [] ∙ ap (λ (x : Reading). elements_after x [] (nfd (text r))) kept)) in
      let anew : elements_after (facts_reading right) d (nfd m) ≡ ms =
      ap (λ (x : Reading). elements_after x d (nfd m)) (sym same)
      ∙ front_anew (facts_reading left) m (text r) (subst (BeginsAtBoundary (facts_reading left)) cut.left_parts begins) d b in
      let second : facts_give other_text right d ≡ ms ++ facts_give other_text other [] =
      other_reads d
      ∙ pieces_part (facts_reading right) d [] (other_text u) m (other_text s) (record { parts = cut.right_parts; boundary = cut.right_cut })
      ∙ ap (λ (es : List Element). es ++ elements_after (facts_reading right) [] (nfd (other_text s))) anew
      ∙ ap (λ (es : List Element). ms ++ es) (sym (other_reads' [] ∙ ap (λ (x : Reading). elements_after x [] (nfd (other_text s))) other_kept)) in (
        [],
        [],
        map stayed ms,
        ap (map stayed) first ∙ map-append stayed ms (facts_give text one []),
        ap (map stayed) second ∙ map-append stayed ms (facts_give other_text other []),
      )

  module _ (one : FactsCursor T) (other : FactsCursor U) (h : PassesCommon text other_text left right one other) where
    pub passed_on : (level : Level) (b d : List ℕ) → (b' : List ℕ) × (d' : List ℕ)
        × (order_on level (plain_left text left b) (plain_left other_text right d) ≡ order_on level (plain_left text one b') (plain_left other_text other d'))
    passed_on level b d =
        let p = h b d in
        (p.0, p.1, ap₂ (order_on level) p.3 p.4 ∙ common_on level p.2 (plain_left text one p.0) (plain_left other_text other p.1))

    pub leaves_passed : (levels : ThreeLevels) (from : FactsCursor T) (to : FactsCursor U) (third : Ordering)
        → LeavesOrder text other_text levels from to third left right → LeavesOrder text other_text levels from to third one other
    leaves_passed levels from to third so_far = λ b d.
        let at = so_far b d in
        let p = h at.0 at.1 in (
          p.0,
          p.1,
          at.2 ∙ ap₂ (three_order levels third) p.3 p.4 ∙ common_three levels third p.2 (plain_left text one p.0) (plain_left other_text other p.1),
        )

-- ---- weights

module _ (level : Level) where
  pub weighs : (h : HandledElement) (hs : List HandledElement) (w : ℕ) → weight_in level h ≡ Some w → WeighsOn level (h ∷ hs) (Some w) hs
  weighs h hs w e = weights_of_first level h hs w e

  pub no_weight : (h : HandledElement) (hs : List HandledElement) → weight_in level h ≡ None → level_weights level (h ∷ hs) ≡ level_weights level hs
  no_weight h hs e = no_weight_of_first level h hs e

-- the same weight in front of both
pub same_next : (one other : Option ℕ) (w v : ℕ) (ws vs : List ℕ) → one ≡ Some w → other ≡ Some v → w ≡ v → list_order (weights_from one ws) (weights_from other vs) ≡ list_order ws vs
same_next one other w v ws vs e f same =
    ap₂ (λ (x y : Option ℕ). list_order (weights_from x ws) (weights_from y vs)) (e ∙ ap (λ x. Some x) same) f
    ∙ same_front (v ∷ []) ws vs

-- ---- the order of the texts

then_nothing : (o p : Ordering) → p ≡ Equal → ordering_then o p ≡ o
then_nothing Less p e = refl
then_nothing Equal p e = e
then_nothing Greater p e = refl

module _ (collation : Collation) (none : last_variable_by collation ≡ 0) where
  pub plain_elements : (t : List ℕ) → handled_by collation (nfd t) ≡ map stayed (elements_of (reading_by collation) (nfd t))
  plain_elements t = all_stay collation.settings.alternate_handling (last_variable_by collation) (elements_of (reading_by collation) (nfd t)) none

  -- what two cursors give on a level is what the texts have
  pub level_read : {T U : Type 0} (text : T → List ℕ) (other_text : U → List ℕ) (one : FactsCursor T) (other : FactsCursor U) (t u : List ℕ) (first : Level) (o : Ordering)
      → facts_give text one [] ≡ elements_after (reading_by collation) [] (nfd t) → facts_give other_text other [] ≡ elements_after (reading_by collation) [] (nfd u)
      → order_on first (handled_by collation (nfd t)) (handled_by collation (nfd u)) ≡ leading_order collation (nfd t) (nfd u)
      → o ≡ order_on first (plain_left text one []) (plain_left other_text other []) → o ≡ leading_order collation (nfd t) (nfd u)
  level_read text other_text one other t u first o e f leads h =
      h ∙ ap₂ (order_on first) (ap (map stayed) e ∙ sym (plain_elements t)) (ap (map stayed) f ∙ sym (plain_elements u)) ∙ leads

module _ (collation : Collation) (plain : ReadsElementsAlone collation) where
  pub elements_are_all : (t u : List ℕ) → text_order collation t u ≡ elements_order collation (nfd t) (nfd u)
  elements_are_all t u =
      order_in_two collation t u
      ∙ then_nothing (elements_order collation (nfd t) (nfd u)) _ (ap (λ b. characters_order b (lists_by collation (nfd t)) (lists_by collation (nfd u))) plain.identical)

  pub facts_order : {T U : Type 0} (text : T → List ℕ) (other_text : U → List ℕ) (one : FactsCursor T) (other : FactsCursor U) (t u : List ℕ) (first : Level) (form : TertiaryForm) (found : Option Ordering)
      → facts_give text one [] ≡ elements_after (reading_by collation) [] (nfd t) → facts_give other_text other [] ≡ elements_after (reading_by collation) [] (nfd u)
      → order_on first (handled_by collation (nfd t)) (handled_by collation (nfd u)) ≡ leading_order collation (nfd t) (nfd u) → IsThreeLevel (form_by collation) form
      → IfSome found (λ o. o ≡ three_order (three_levels first form) Equal (plain_left text one []) (plain_left other_text other []))
      → IfSome found (λ o. o ≡ text_order collation t u)
  facts_order text other_text one other t u first form None e f leads is h = tt
  facts_order text other_text one other t u first form (Some o) e f leads is h =
      h ∙ ap₂ (three_order (three_levels first form) Equal) (ap (map stayed) e ∙ sym (plain_elements collation plain.variable t)) (ap (map stayed) f ∙ sym (plain_elements collation plain.variable u))
      ∙ three_read collation (nfd t) (nfd u) first form leads is ∙ sym (elements_are_all t u)

-- ---- weights of a level

module _ (level : Level) where
  -- nothing weighs nothing
  pub nothing_weighs : level_weights level [] ≡ []
  unfolding level_weights
  nothing_weighs = refl

  module _ {T : Type 0} (text : T → List ℕ) where
    pub passes : (start old new : FactsCursor T) (next : Option Handled) (h : Handled)
        → ((before : List ℕ) → (after : List ℕ) × (level_weights level (plain_left text start before) ≡ level_weights level (plain_left text old after)))
        → StepsOn text old next new → next ≡ Some h → weight_in level (handled_as h) ≡ None
        → (before : List ℕ) → (after : List ℕ) × (level_weights level (plain_left text start before) ≡ level_weights level (plain_left text new after))
    passes start old new next h so_far steps is none = λ before.
        let at = so_far before in
        let n = steps at.0 in (
          n.0,
          at.1 ∙ ap (level_weights level) (n.1 ∙ ap (λ x. from_first x (plain_left text new n.0)) is) ∙ no_weight level (handled_as h) (plain_left text new n.0) none,
        )

    pub weight_found : (start old new : FactsCursor T) (next : Option Handled) (h : Handled) (w : ℕ)
        → ((before : List ℕ) → (after : List ℕ) × (level_weights level (plain_left text start before) ≡ level_weights level (plain_left text old after)))
        → StepsOn text old next new → next ≡ Some h → weight_in level (handled_as h) ≡ Some w
        → (before : List ℕ) → (after : List ℕ) × WeighsOn level (plain_left text start before) (Some w) (plain_left text new after)
    weight_found start old new next h w so_far steps is some = λ before.
        let at = so_far before in
        let n = steps at.0 in (
          n.0,
          at.1 ∙ ap (level_weights level) (n.1 ∙ ap (λ x. from_first x (plain_left text new n.0)) is) ∙ weighs level (handled_as h) (plain_left text new n.0) w some,
        )

    pub text_ended : (start old new : FactsCursor T) (next : Option Handled)
        → ((before : List ℕ) → (after : List ℕ) × (level_weights level (plain_left text start before) ≡ level_weights level (plain_left text old after)))
        → StepsOn text old next new → next ≡ None
        → (before : List ℕ) → (after : List ℕ) × WeighsOn level (plain_left text start before) None (plain_left text new after)
    text_ended start old new next so_far steps is = λ before.
        let at = so_far before in
        let n = steps at.0 in (
          n.0,
          at.1 ∙ ap (level_weights level) (n.1 ∙ ap (λ x. from_first x (plain_left text new n.0)) is) ∙ nothing_weighs,
        )

    -- an element without a weight changes nothing of the next one
    pub passed_first : (old new : FactsCursor T) (first : Option Handled) (h : Handled) (found : Option (Option ℕ)) → first ≡ Some h → weight_in level (handled_as h) ≡ None
        → IfSome found (λ next. (before : List ℕ) → (after : List ℕ) × WeighsOn level (plain_left text old before) next (plain_left text new after))
        → IfSome found (λ next. (before : List ℕ) → (after : List ℕ) × WeighsOn level (from_first first (plain_left text old before)) next (plain_left text new after))
    passed_first old new first h None is none found = tt
    passed_first old new first h (Some next) is none found = λ before.
        let n = found before in (
          n.0,
          ap (λ x. level_weights level (from_first x (plain_left text old before))) is ∙ no_weight level (handled_as h) (plain_left text old before) none ∙ n.1,
        )

    pub first_weighs : (old : FactsCursor T) (first : Option Handled) (h : Handled) (w : ℕ) → first ≡ Some h → weight_in level (handled_as h) ≡ Some w
        → (before : List ℕ) → (after : List ℕ) × WeighsOn level (from_first first (plain_left text old before)) (Some w) (plain_left text old after)
    first_weighs old first h w is some = λ before. (
      before,
      ap (λ x. level_weights level (from_first x (plain_left text old before))) is ∙ weighs level (handled_as h) (plain_left text old before) w some,
    )

    pub nothing_first : (old : FactsCursor T) (first : Option Handled) → first ≡ None
        → (before : List ℕ) → (after : List ℕ) × WeighsOn level (from_first first (plain_left text old before)) None (plain_left text old after)
    nothing_first old first is = λ before. (before, ap (λ x. level_weights level (from_first x (plain_left text old before))) is ∙ nothing_weighs)

  pub order_by_weights : (hs ks : List HandledElement) (ws vs : List ℕ) → level_weights level hs ≡ ws → level_weights level ks ≡ vs → order_on level hs ks ≡ list_order ws vs
  unfolding order_on
  order_by_weights hs ks ws vs e f = ap₂ list_order e f

pub any_found : {X : Type 0} (found : Option X) (P : Type 0) → P → IfSome found (λ _. P)
any_found None P h = tt
any_found (Some x) P h = h
