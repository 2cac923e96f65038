-- Lists of elements in step: what elements at their fronts say of the orders on levels.
use Rattle.std.proofs.Common.{◌≡◌, ◌≢◌, ◌<◌, ◌≤◌, arith, length, ℕ, List, [], ◌∷◌, ◌++◌, Option, Some, None, IfSome, IfOk, MatchOption, Result, Ok, Err, option_map, Ordering, Less, Equal, Greater, refl, sym, ap, subst, ◌∙◌, ⊎_elim}
use Rattle.std.specs.Prelude.{option_to_list}
use Rattle.std.specs.Ordering.{nat_cmp, ordering_then}
use Rattle.std.proofs.lemmas.Bool.{cases_order as number_cases}
use Rattle.icu_order_levels.specs.ListOrder.{list_order}
use Rattle.icu_order_levels.proofs.Order.{less_number, more_number, same_front, same_lists_order}
use Rattle.icu_order_levels.proofs.Orderings.{then_assoc, then_equal}
use Rattle.icu_order_texts.specs.weighting.Collations.{Collation}
use Rattle.icu_order_texts.specs.weighting.Handled.{HandledElement}
use Rattle.icu_order_texts.specs.declared.weighting.handled_element.Handled.{Handled}
use Rattle.icu_order_texts.specs.weighting.HandledSources.{handled_as, GivesNext}
use Rattle.icu_order_levels.specs.Keys.{LevelLists, secondaries_order, cases_order, tertiaries_order, quaternaries_order}
use Rattle.icu_order_levels.specs.declared.forms.KeyForm.{KeyForm}
use Rattle.icu_order_levels.specs.declared.forms.TertiaryForm.{TertiaryForm}
use Rattle.icu_table_provider.specs.StoredTables.{reordering_of}
use Rattle.icu_table_provider.specs.declared.reordering.CollationReordering.{CollationReordering}
use Rattle.icu_order_texts.specs.weighting.Forms.{form_by}
use Rattle.icu_order_texts.specs.TextOrder.{handled_by, lists_by}
use Rattle.icu_collator.proofs.TieLemmas.{same_elements}
use Rattle.icu_collator.proofs.LevelLemmas.{primaries_read, secondaries_read, tertiaries_read}
use Rattle.icu_collator.specs.declared.forward_levels.Level.TheVariants.{Primary, Secondary, Tertiary}
use Rattle.icu_collator.specs.inner.ElementOrders.{before_characters, elements_order, leading_order, later_levels_order}
use Rattle.icu_collator.specs.declared.forward_levels.Level.{Level}
use Rattle.icu_collator.specs.inner.InStep.{from_first, order_on, order_from, three_order, three_levels, ThreeLevels, IsThreeLevel, StepsBy, StepBoth, DecidesOn, HasWeight}
use Rattle.icu_collator.specs.inner.LevelWeights.{weight_in, level_weights}

-- ---- what a source gave

pub given : (before : List HandledElement) (next : Option Handled) (after : List HandledElement) → GivesNext before next after → before ≡ from_first next after
given before None after h = h.0
given before (Some h) after g = g

-- ---- one level

pub same_order : (level : Level) (hs ks : List HandledElement) → hs ≡ ks → order_on level hs ks ≡ Equal
unfolding order_on
same_order level hs ks e = same_lists_order (level_weights level hs) (level_weights level ks) (ap (level_weights level) e)

pub weights_of_first : (level : Level) (h : HandledElement) (hs : List HandledElement) (w : ℕ) → weight_in level h ≡ Some w
    → level_weights level (h ∷ hs) ≡ w ∷ level_weights level hs
unfolding level_weights
weights_of_first level h hs w e = ap (λ o. option_to_list o ++ level_weights level hs) e

pub no_weight_of_first : (level : Level) (h : HandledElement) (hs : List HandledElement) → weight_in level h ≡ None
    → level_weights level (h ∷ hs) ≡ level_weights level hs
unfolding level_weights
no_weight_of_first level h hs e = ap (λ o. option_to_list o ++ level_weights level hs) e

-- elements of one weight, or none, at the fronts
pub tied_order : (level : Level) (h k : HandledElement) (hs ks : List HandledElement) → weight_in level h ≡ weight_in level k
    → order_on level (h ∷ hs) (k ∷ ks) ≡ order_on level hs ks
unfolding order_on level_weights
tied_order level h k hs ks e =
    ap (λ o. list_order (option_to_list o ++ level_weights level hs) (option_to_list (weight_in level k) ++ level_weights level ks)) e
    ∙ same_front (option_to_list (weight_in level k)) (level_weights level hs) (level_weights level ks)

-- elements that have a weight each
pub weighed_order : (level : Level) (h k : HandledElement) (hs ks : List HandledElement) (x y : ℕ) → weight_in level h ≡ Some x → weight_in level k ≡ Some y
    → order_on level (h ∷ hs) (k ∷ ks) ≡ ordering_then (nat_cmp x y) (order_on level hs ks)
unfolding order_on
weighed_order level h k hs ks x y e f =
    ap (λ l. list_order l (level_weights level (k ∷ ks))) (weights_of_first level h hs x e)
    ∙ ap (list_order (x ∷ level_weights level hs)) (weights_of_first level k ks y f)

decided : (o p rest whole : Ordering) → o ≡ p → o ≢ Equal → whole ≡ ordering_then p rest → (o ≡ whole) × (o ≢ Equal)
decided Less p rest whole e n w = (sym (w ∙ ap (λ q. ordering_then q rest) (sym e)), n)
decided Equal p rest whole e n w = absurd (n refl)
decided Greater p rest whole e n w = (sym (w ∙ ap (λ q. ordering_then q rest) (sym e)), n)

pub both_decide : (level : Level) (one other : Handled) (x y : ℕ) (o : Ordering) → weight_in level (handled_as one) ≡ Some x → weight_in level (handled_as other) ≡ Some y
    → o ≡ nat_cmp x y → o ≢ Equal → DecidesOn level (Some one) (Some other) o
both_decide level one other x y o e f is differs = λ hs ks.
    decided o (nat_cmp x y) (order_on level hs ks) (order_on level (handled_as one ∷ hs) (handled_as other ∷ ks)) is differs
    (weighed_order level (handled_as one) (handled_as other) hs ks x y e f)

pub differ : (x y : ℕ) (o : Ordering) → o ≡ nat_cmp x y → (x ≡ y → ⊥) → o ≢ Equal
differ x y o is n =
    ⊎_elim (λ e. absurd (n e))
    (⊎_elim (λ l. λ q. (let z : o ≡ Less = is ∙ less_number x y l in cc)) (λ l. λ q. (let z : o ≡ Greater = is ∙ more_number x y l in cc)))
    (number_cases x y)

-- one list has ended
pub left_ended : (level : Level) (other : Handled) (y : ℕ) → weight_in level (handled_as other) ≡ Some y → DecidesOn level None (Some other) Less
unfolding order_on level_weights
left_ended level other y f = λ hs ks.
    (sym (ap (list_order []) (weights_of_first level (handled_as other) ks y f)), λ e. cc)

pub right_ended : (level : Level) (one : Handled) (x : ℕ) → weight_in level (handled_as one) ≡ Some x → DecidesOn level (Some one) None Greater
unfolding order_on level_weights
right_ended level one x e = λ hs ks.
    (sym (ap (λ l. list_order l []) (weights_of_first level (handled_as one) hs x e)), λ e. cc)

pub left_ends : (level : Level) (other : Handled) (r : Option Ordering) → IfSome r (λ o. (o ≡ Less) × HasWeight level other)
    → IfSome r (λ o. DecidesOn level None (Some other) o)
left_ends level other None h = tt
left_ends level other (Some o) h = subst (λ p. DecidesOn level None (Some other) p) (sym h.0) (left_ended level other h.1.0 h.1.1)

pub right_ends : (level : Level) (one : Handled) (r : Option Ordering) → IfSome r (λ o. (o ≡ Greater) × HasWeight level one)
    → IfSome r (λ o. DecidesOn level (Some one) None o)
right_ends level one None h = tt
right_ends level one (Some o) h = subst (λ p. DecidesOn level (Some one) None p) (sym h.0) (right_ended level one h.1.0 h.1.1)

-- ---- three levels

pub steps_by : (levels : ThreeLevels) (one other : Handled) (r : Option Ordering)
    → weight_in levels.first (handled_as one) ≡ weight_in levels.first (handled_as other)
    → weight_in levels.second (handled_as one) ≡ weight_in levels.second (handled_as other)
    → IfSome r (λ o. (hs ks : List HandledElement) → order_on levels.third (handled_as one ∷ hs) (handled_as other ∷ ks) ≡ ordering_then o (order_on levels.third hs ks))
    → IfSome r (λ o. StepsBy levels one other o)
steps_by levels one other None e f h = tt
steps_by levels one other (Some o) e f h = record {
  on_first = λ hs ks. tied_order levels.first (handled_as one) (handled_as other) hs ks e;
  on_second = λ hs ks. tied_order levels.second (handled_as one) (handled_as other) hs ks f;
  on_third = h;
}

module _ (levels : ThreeLevels) (third : Ordering) where
  -- the same elements on both sides
  pub same_three : (hs ks : List HandledElement) → hs ≡ ks → three_order levels third hs ks ≡ third
  same_three hs ks e = rw (same_order levels.first hs ks e, same_order levels.second hs ks e, same_order levels.third hs ks e) (then_equal third)

  -- further elements that tie on two levels
  pub one_more : (hs ks us vs : List HandledElement) (one other : Handled) (o : Ordering)
      → ((level : Level) → order_on level hs ks ≡ order_on level (handled_as one ∷ us) (handled_as other ∷ vs))
      → StepsBy levels one other o → three_order levels third hs ks ≡ three_order levels (ordering_then third o) us vs
  one_more hs ks us vs one other o same by =
      let first : order_on levels.first hs ks ≡ order_on levels.first us vs = same levels.first ∙ by.on_first us vs in
      let second : order_on levels.second hs ks ≡ order_on levels.second us vs = same levels.second ∙ by.on_second us vs in
      let last : order_on levels.third hs ks ≡ ordering_then o (order_on levels.third us vs) = same levels.third ∙ by.on_third us vs in
      rw (first, second, last) (ap (λ w. ordering_then (order_on levels.first us vs) (ordering_then (order_on levels.second us vs) w))
      (then_assoc third o (order_on levels.third us vs)))

  -- a step by what two sources gave
  pub step_both : (hs ks us vs : List HandledElement) (one other : Option Handled) (o : Ordering)
      → ((level : Level) → order_on level hs ks ≡ order_from level one other us vs)
      → StepBoth levels one other o → three_order levels third hs ks ≡ three_order levels (ordering_then third o) us vs
  step_both hs ks us vs None other o same by = absurd by
  step_both hs ks us vs (Some one) None o same by = absurd by
  step_both hs ks us vs (Some one) (Some other) o same by = one_more hs ks us vs one other o same by

  pub first_step : (hs ks us vs : List HandledElement) (one other : Option Handled) (o : Ordering)
      → ((level : Level) → order_on level hs ks ≡ order_from level one other us vs)
      → StepBoth levels one other o → order_on levels.first hs ks ≡ order_on levels.first us vs
  first_step hs ks us vs None other o same by = absurd by
  first_step hs ks us vs (Some one) None o same by = absurd by
  first_step hs ks us vs (Some one) (Some other) o same by = same levels.first ∙ by.on_first us vs

  pub shorter : (us : List HandledElement) (n : ℕ) (one other : Option Handled) (o : Ordering) → StepBoth levels one other o
      → length (from_first one us) ≤ n → length us < n
  shorter us n None other o by h = absurd by
  shorter us n (Some one) None o by h = absurd by
  shorter us n (Some one) (Some other) o by h = omega arith

  -- the first level decides
  pub first_decides : (hs ks : List HandledElement) (o : Ordering) → o ≡ order_on levels.first hs ks → o ≢ Equal → o ≡ three_order levels third hs ks
  first_decides hs ks Less e n = rw (sym e) refl
  first_decides hs ks Equal e n = absurd (n refl)
  first_decides hs ks Greater e n = rw (sym e) refl

  -- the second one does, where the first ties
  pub second_decides : (hs ks : List HandledElement) (o : Ordering) → order_on levels.first hs ks ≡ Equal → (o ≡ order_on levels.second hs ks) × (o ≢ Equal)
      → o ≡ three_order levels third hs ks
  second_decides hs ks Less ties d = rw (ties, sym d.0) refl
  second_decides hs ks Equal ties d = absurd (d.1 refl)
  second_decides hs ks Greater ties d = rw (ties, sym d.0) refl

-- ---- the levels of a collator

in_three : (p s t s' c q : Ordering) (t' : Ordering) → s ≡ s' → c ≡ Equal → t ≡ t' → q ≡ Equal
    → ordering_then p (ordering_then s (ordering_then Equal t)) ≡ ordering_then p (ordering_then s' (ordering_then c (ordering_then t' q)))
in_three p s t s' c q t' e f g h = rw (e, f, g, h) (ap (λ w. ordering_then p (ordering_then s' w)) (sym (then_equal t')))

module _ (collation : Collation) (t u : List ℕ) where
  abbrev form : KeyForm
  form = form_by collation

  abbrev left : LevelLists
  left = lists_by collation t

  abbrev right : LevelLists
  right = lists_by collation u

  pub leading_read : (r : Option CollationReordering) → option_map reordering_of r ≡ collation.tables.reordering
      → order_on (Primary r) (handled_by collation t) (handled_by collation u) ≡ leading_order collation t u
  unfolding order_on leading_order
  leading_read r e = primaries_read collation t u r e

  pub three_read : (first : Level) (f : TertiaryForm) → order_on first (handled_by collation t) (handled_by collation u) ≡ leading_order collation t u
      → IsThreeLevel form f
      → three_order (three_levels first f) Equal (handled_by collation t) (handled_by collation u)
      ≡ elements_order collation t u
  unfolding order_on leading_order elements_order before_characters
  three_read first f leads is =
      ap (λ p. ordering_then p (ordering_then (order_on Secondary (handled_by collation t) (handled_by collation u))
      (order_on (Tertiary f) (handled_by collation t) (handled_by collation u)))) leads
      ∙ in_three (leading_order collation t u) _ _ (secondaries_order form.secondary left right) (cases_order form.cases left right)
      (quaternaries_order form.quaternary left right) (tertiaries_order form.tertiary left right)
      (secondaries_read collation t u ∙ ap (λ o. secondaries_order o left right) (sym is.secondary))
      (ap (λ o. cases_order o left right) is.cases) (tertiaries_read collation t u f is.tertiaries) (ap (λ o. quaternaries_order o left right) is.quaternary)

  -- primaries that tie leave it to the levels after them
  pub later_levels_decide : leading_order collation t u ≡ Equal → later_levels_order collation t u ≡ elements_order collation t u
  unfolding leading_order later_levels_order elements_order before_characters
  later_levels_decide ties = sym (ap (λ p. ordering_then p (later_levels_order collation t u)) ties)

  -- primaries that differ decide
  pub leading_decides : (o : Ordering) → o ≡ leading_order collation t u → o ≢ Equal → o ≡ elements_order collation t u
  unfolding leading_order later_levels_order elements_order before_characters
  leading_decides Less e n = ap (λ p. ordering_then p (later_levels_order collation t u)) e
  leading_decides Equal e n = absurd (n refl)
  leading_decides Greater e n = ap (λ p. ordering_then p (later_levels_order collation t u)) e

  -- what a pass over both texts shows
  module _ (first : Level) (hs ks : List HandledElement) (leads : order_on first (handled_by collation t) (handled_by collation u) ≡ leading_order collation t u)
      (e : hs ≡ handled_by collation t) (g : ks ≡ handled_by collation u) where
    on_first_read : order_on first hs ks ≡ leading_order collation t u
    on_first_read = ap (λ x. order_on first x ks) e ∙ ap (order_on first (handled_by collation t)) g ∙ leads

    pub in_step_read : {E : Type 0} (r : Result (Option Ordering) E) (f : TertiaryForm) → IsThreeLevel form f
        → IfOk r (λ found. MatchOption found (order_on first hs ks ≡ Equal) (λ o. o ≡ three_order (three_levels first f) Equal hs ks))
        → IfOk r (λ found. MatchOption found (leading_order collation t u ≡ Equal) (λ o. o ≡ elements_order collation t u))
    in_step_read (Err x) f is h = tt
    in_step_read (Ok None) f is h = sym on_first_read ∙ h
    in_step_read (Ok (Some o)) f is h =
        h ∙ ap (λ x. three_order (three_levels first f) Equal x ks) e ∙ ap (three_order (three_levels first f) Equal (handled_by collation t)) g
        ∙ three_read first f leads is

    pub difference_read : {E : Type 0} (r : Result (Option Ordering) E)
        → IfOk r (λ found. IfSome found (λ o. o ≡ Equal → hs ≡ ks))
        → IfOk r (λ found. MatchOption found (order_on first hs ks ≡ Equal) (λ o. o ≡ order_on first hs ks))
        → IfOk r (λ found. MatchOption found (leading_order collation t u ≡ Equal) (λ o. o ≡ elements_order collation t u))
    difference_read (Err x) same h = tt
    difference_read (Ok None) same h = sym on_first_read ∙ h
    difference_read (Ok (Some Less)) same h = leading_decides Less (h ∙ on_first_read) (λ q. cc)
    difference_read (Ok (Some Equal)) same h = sym (same_elements collation t u (sym e ∙ same refl ∙ g))
    difference_read (Ok (Some Greater)) same h = leading_decides Greater (h ∙ on_first_read) (λ q. cc)
