-- What the first characters of two texts decide; and two texts are in the order of what follows a common beginning.
use Rattle.std.proofs.Common.{◌≡◌, ◌≢◌, ◌<◌, ◌≤◌, ◌==◌, ◌⊎◌, ◌&&◌, ℕ, Bool, true, false, List, [], ◌∷◌, ◌++◌, map, Option, Some, None, IfSome, Ordering, Less, Equal, Greater, refl, sym, ap, ap₂, subst, ◌∙◌, append_assoc, ⊎_elim, arith, not, if◌then◌else◌}
use Rattle.std.specs.Ordering.{nat_cmp, ordering_then}
use Rattle.std.proofs.lemmas.List.{map-append}
use Rattle.std.proofs.lemmas.Bool.{cases_order, eqb-false}
use Rattle.std.proofs.lemmas.Bool.Decides.{nat_tests}
use Rattle.icu_element_reading.proofs.boundaries.CutPartLemmas.{nothing}
use Rattle.unicode_normalization.specs.Forms.{nfd}
use Rattle.icu_options.specs.declared.settings.AlternateHandling.{AlternateHandling}
use Rattle.icu_options.specs.declared.settings.AlternateHandling.TheVariants.{NonIgnorable, Shifted, Blanked}
use Rattle.icu_table_entries.specs.ElementConditions.{separator_primary}
use Rattle.icu_order_levels.specs.CommonBeginnings.{ReadsForward}
use Rattle.icu_order_levels.specs.ListOrder.{list_order}
use Rattle.icu_order_levels.proofs.Order.{less_number, more_number, same_front}
use Rattle.icu_table_entries.specs.Elements.{Element}
use Rattle.icu_table_provider.specs.CollatorTables.{reorder}
use Rattle.icu_element_reading.specs.TextElements.{elements_of, elements_after}
use Rattle.icu_element_reading.specs.boundaries.ReadingLaws.{FirstStartersLead}
use Rattle.icu_element_facts.specs.KeptFacts.{HasLeadingPrimary}
use Rattle.icu_element_cursor.specs.Cursors.{BeginsWithPrimary}
use Rattle.icu_element_cursor.specs.declared.facts_cursor.FactsCursor.{FactsCursor}
use Rattle.icu_element_cursor.specs.FactsCursors.{GoesOn, facts_give}
use Rattle.icu_element_reading.specs.boundaries.BoundaryTables.{HasBoundaryBefore}
use Rattle.icu_order_texts.specs.weighting.Collations.{Collation}
use Rattle.icu_order_texts.specs.weighting.Forms.{form_by, last_variable_by}
use Rattle.icu_order_texts.specs.weighting.Handled.{HandledElement, stayed, handled, handled_variable, is_variable, stayed_elements}
use Rattle.icu_order_texts.specs.weighting.Levels.{weights, primaries}
use Rattle.icu_order_texts.specs.TextCuts.{begins_with_primary, IsRest, CommonBeginningsDoNotCount}
use Rattle.icu_order_texts.specs.TextOrder.{reading_by, lists_by, text_order}
use Rattle.icu_order_texts.specs.text_beginnings.TextBeginnings.{primary_collation, primary_order, primary_weights}
use Rattle.icu_order_texts.specs.text_beginnings.TextBeginningLaws.{PrimaryOrderIsOfWeights}
use Rattle.icu_collator.specs.inner.ElementOrders.{leading_order}
use Rattle.icu_collator.proofs.InStepLemmas.{leading_decides}
use Rattle.icu_collator.proofs.OrdersInTurn.{order_in_two}
use Rattle.icu_collator.specs.inner.FirstPrimaries.{IsFirst, LeadsWith, Decides, GivesPrimaries, GivesPrimary, ReadsOn, primaries_given, primaries_of, unequal_order}

-- ---- the first element

pub above_nothing : (last p : ℕ) → last < p → p ≢ 0
above_nothing last p above = λ e. grind (arith)

has_primary : (last : ℕ) (x : Element) (after : Bool) → last < x.primary → (after && x.primary == 0) ≡ false
has_primary last x true above = grind (arith, nat_tests)
has_primary last x false above = refl

first_stays : (handling : AlternateHandling) (last : ℕ) (after : Bool) (x : Element) (xs : List Element) → last < x.primary
    → handled handling last after (x ∷ xs) ≡ stayed x ∷ handled handling last false xs
unfolding handled
first_stays handling last after x xs above =
    let stays : is_variable last x ≡ false = grind (arith, nat_tests) in
    rw stays (rw (has_primary last x after above) refl)

first_counts : (x : Element) (xs : List Element) → x.primary ≢ 0 → primaries (x ∷ xs) ≡ x.primary ∷ primaries xs
unfolding weights
first_counts x xs nonzero =
    let counts : (x.primary == 0) ≡ false = grind (arith, nat_tests) in
    rw counts refl

-- elements the first of which isn't variable
leading_primary : (collation : Collation) (after : Bool) (x : Element) (xs : List Element) → last_variable_by collation < x.primary
    → primaries_given collation after (x ∷ xs) ≡ x.primary ∷ primaries_given collation false xs
leading_primary collation after x xs above =
    let last : ℕ = last_variable_by collation in
    ap (λ hs. primaries (stayed_elements hs)) (first_stays collation.settings.alternate_handling last after x xs above)
    ∙ first_counts x _ (above_nothing last x.primary above)

-- elements the first of which has no primary
no_primary : (collation : Collation) (after : Bool) (x : Element) (xs : List Element) → x.primary ≡ 0
    → (a : Bool) × (primaries_given collation after (x ∷ xs) ≡ primaries_given collation a xs)
unfolding handled weights
no_primary collation true x xs zero = (true, rw zero refl)
no_primary collation false x xs zero = (false, rw zero refl)

-- a variable element leaves none that stays
shifted_goes : (handling : AlternateHandling) (p : ℕ) (hs : List HandledElement) → primaries (stayed_elements (handled_variable handling p ++ hs)) ≡ primaries (stayed_elements hs)
shifted_goes NonIgnorable p hs = refl
shifted_goes Shifted p hs = refl
shifted_goes Blanked p hs = refl

between_is_variable : (last : ℕ) (x : Element) → separator_primary < x.primary → x.primary ≤ last → is_variable last x ≡ true
between_is_variable last x above below = grind (arith, nat_tests)

-- elements the first of which is variable
variable_first : (collation : Collation) (after : Bool) (x : Element) (xs : List Element) → is_variable (last_variable_by collation) x ≡ true
    → primaries_given collation after (x ∷ xs) ≡ primaries_given collation true xs
unfolding handled
variable_first collation after x xs is = rw is (shifted_goes collation.settings.alternate_handling x.primary (handled collation.settings.alternate_handling (last_variable_by collation) true xs))

-- a text that begins with a starter that stands alone
pub begins_with_starter : (collation : Collation) → FirstStartersLead → (c : ℕ) (cs : List ℕ) (p : ℕ) → HasLeadingPrimary (reading_by collation) c p → BeginsWithPrimary (reading_by collation) (c ∷ cs) p
begins_with_starter collation law c cs p h =
    let led = law (reading_by collation) [] c h.first h.more cs h.decomposes h.starter h.alone in
    record { element = h.element; rest = h.rest ++ led.0; elements = led.1 ∙ ap (λ es. es ++ led.0) h.elements; leading = h.leading }

module _ (collation : Collation) (t : List ℕ) (p : ℕ) (h : BeginsWithPrimary (reading_by collation) t p) where
  pub first_has_primary : p ≢ 0 → begins_with_primary (elements_of (reading_by collation) (nfd t)) ≡ true
  first_has_primary nonzero =
      let has : not (h.element.primary == 0) ≡ true = rw h.leading (grind (arith, nat_tests)) in
      ap begins_with_primary h.elements ∙ has

  first_leads : last_variable_by collation < p → LeadsWith collation t p
  unfolding LeadsWith
  first_leads above =
      let list = ap (primaries_given collation false) h.elements
      ∙ leading_primary collation false h.element h.rest (subst (λ x. last_variable_by collation < x) (sym h.leading) above) in
      subst (IsFirst p) (sym list) (h.leading, λ e. above_nothing (last_variable_by collation) p above e)

-- where what is known of the first character is a primary above the variable ones, a text leads with it
pub facts_lead : (collation : Collation) (t : List ℕ) (q : ℕ) → (q ≢ 0 → BeginsWithPrimary (reading_by collation) t q) → (r : Option ℕ)
    → IfSome r (λ p. (p ≡ q) × (last_variable_by collation < p)) → IfSome r (λ p. LeadsWith collation t p)
facts_lead collation t q leads None h = tt
facts_lead collation t q leads (Some p) h =
    let nonzero : q ≢ 0 = λ z. above_nothing (last_variable_by collation) p h.1 (h.0 ∙ z) in
    first_leads collation t p (subst (λ (x : ℕ). BeginsWithPrimary (reading_by collation) t x) (sym h.0) (leads nonzero)) h.1

pub nothing_leads : (collation : Collation) → LeadsWith collation [] 0
unfolding LeadsWith handled weights
nothing_leads collation = subst (λ es. IsFirst 0 (primaries_given collation false es)) (sym (nothing (reading_by collation) [])) refl

-- ---- texts that may be the rest of others

-- a text that begins with a character before which it may be cut, where no element is variable or its first one has a
-- primary
pub may_be_rest : (collation : Collation) (c : ℕ) (cs : List ℕ) → HasBoundaryBefore (reading_by collation) c
    → (last_variable_by collation ≡ 0) ⊎ (begins_with_primary (elements_of (reading_by collation) (nfd (c ∷ cs))) ≡ true) → IsRest collation (c ∷ cs)
may_be_rest collation c cs h v = record { first = h.first; more = h.more; decomposes = h.decomposes; boundary = h.boundary; handled = v }

-- two texts are in the order of their rests
pub rests_order : (collation : Collation) → CommonBeginningsDoNotCount → ReadsForward (form_by collation).secondary
    → (left right beginning other_beginning t u : List ℕ) → left ≡ beginning ++ t → right ≡ other_beginning ++ u → beginning ≡ other_beginning
    → IsRest collation t → IsRest collation u → text_order collation t u ≡ text_order collation left right
rests_order collation law forward left right beginning other_beginning t u e f g ht hu =
    sym (law collation forward beginning t u ht hu)
    ∙ ap (λ v. text_order collation v (beginning ++ u)) (sym e)
    ∙ ap (λ v. text_order collation left v) (ap (λ h. h ++ u) g ∙ sym f)

-- ---- what the first primaries decide

chosen : (ps qs : List ℕ) (b : Bool) (o : Ordering) → (b ≡ false → Decides ps qs o) → IfSome (if b then None else Some o) (Decides ps qs)
chosen ps qs true o h = tt
chosen ps qs false o h = h refl

firsts_decide : (x y : ℕ) (xs ys : List ℕ) → IfSome (unequal_order x y) (Decides (x ∷ xs) (y ∷ ys))
firsts_decide x y xs ys = chosen (x ∷ xs) (y ∷ ys) (x == y) (nat_cmp x y) (λ n. ⊎_elim (λ e. absurd (eqb-false x y n e))
    (⊎_elim (λ l. rw (less_number x y l) (refl, λ e. cc)) (λ l. rw (more_number x y l) (refl, λ e. cc))) (cases_order x y))

-- one of the two is empty
pub ends_decide : (r : ℕ → ℕ) (p q : ℕ) (ps qs : List ℕ) → IsFirst p ps → IsFirst q qs → (p ≡ 0) ⊎ (q ≡ 0)
    → IfSome (unequal_order p q) (Decides (map r ps) (map r qs))
ends_decide r p q [] [] h k e = rw (h, k) tt
ends_decide r p q [] (y ∷ ys) h k e = chosen [] (map r (y ∷ ys)) (p == q) (nat_cmp p q) (λ n. rw (less_number p q (grind (arith))) (refl, λ e. cc))
ends_decide r p q (x ∷ xs) [] h k e = chosen (map r (x ∷ xs)) [] (p == q) (nat_cmp p q) (λ n. rw (more_number p q (grind (arith))) (refl, λ e. cc))
ends_decide r p q (x ∷ xs) (y ∷ ys) h k e = absurd (⊎_elim (λ z. h.1 z) (λ z. k.1 z) e)

-- none is
pub leads_decide : (r : ℕ → ℕ) (p q : ℕ) (ps qs : List ℕ) → IsFirst p ps → IsFirst q qs → p ≢ 0 → q ≢ 0
    → IfSome (unequal_order (r p) (r q)) (Decides (map r ps) (map r qs))
leads_decide r p q [] qs h k m n = absurd (m h)
leads_decide r p q (x ∷ xs) [] h k m n = absurd (n k)
leads_decide r p q (x ∷ xs) (y ∷ ys) h k m n =
    subst (λ a. IfSome (unequal_order (r a) (r q)) (Decides (map r (x ∷ xs)) (map r (y ∷ ys)))) h.0
    (subst (λ b. IfSome (unequal_order (r x) (r b)) (Decides (map r (x ∷ xs)) (map r (y ∷ ys)))) k.0
    (firsts_decide (r x) (r y) (map r xs) (map r ys)))

first_of_all : (o p rest : Ordering) → o ≡ p → o ≢ Equal → o ≡ ordering_then p rest
first_of_all Less p rest e n = rw (sym e) refl
first_of_all Equal p rest e n = absurd (n refl)
first_of_all Greater p rest e n = rw (sym e) refl

-- a beginning that both have doesn't count
past_beginning_decides : (r : ℕ → ℕ) (xs ps qs : List ℕ) (found : Option Ordering) → IfSome found (Decides (map r ps) (map r qs)) → IfSome found (Decides (map r (xs ++ ps)) (map r (xs ++ qs)))
past_beginning_decides r xs ps qs None h = tt
past_beginning_decides r xs ps qs (Some o) h =
    (h.0 ∙ sym (ap₂ list_order (map-append r xs ps) (map-append r xs qs) ∙ same_front (map r xs) (map r ps) (map r qs)), h.1)

module _ (collation : Collation) where
  open collation use {tables as all}

  -- this order, if there is one, is that of the primaries of two texts, reordered
  pub primaries_decide : (t u : List ℕ) (found : Option Ordering)
      → IfSome found (Decides (map (reorder all) (primaries_of collation t)) (map (reorder all) (primaries_of collation u)))
      → IfSome found (λ o. o ≡ text_order collation t u)
  unfolding text_order lists_by
  primaries_decide t u None h = tt
  primaries_decide t u (Some o) h = first_of_all o _ _ h.0 h.1

  pub first_primaries_decide : (t u : List ℕ) (p q : ℕ) (found : Option Ordering) → LeadsWith collation t p → LeadsWith collation u q
      → ((ps qs : List ℕ) → IsFirst p ps → IsFirst q qs → IfSome found (Decides (map (reorder all) ps) (map (reorder all) qs)))
      → IfSome found (λ o. o ≡ text_order collation t u)
  unfolding LeadsWith
  first_primaries_decide t u p q found h k decide = primaries_decide t u found (decide (primaries_of collation t) (primaries_of collation u) h k)

  pub first_primaries_lead : (t u : List ℕ) (p q : ℕ) (found : Option Ordering) → LeadsWith collation t p → LeadsWith collation u q
      → ((ps qs : List ℕ) → IsFirst p ps → IsFirst q qs → IfSome found (Decides (map (reorder all) ps) (map (reorder all) qs)))
      → IfSome found (λ o. (o ≡ leading_order collation (nfd t) (nfd u)) × (o ≢ Equal))
  unfolding LeadsWith leading_order lists_by
  first_primaries_lead t u p q None h k decide = tt
  first_primaries_lead t u p q (Some o) h k decide = decide (primaries_of collation t) (primaries_of collation u) h k

  -- ---- rests, on the primary level alone

  rest_of_primaries : (t : List ℕ) → IsRest collation t → IsRest (primary_collation collation) t
  rest_of_primaries [] h = tt
  rest_of_primaries (c ∷ cs) h = record { first = h.first; more = h.more; decomposes = h.decomposes; boundary = h.boundary; handled = h.handled }

  weights_lead : (t u : List ℕ) → list_order (primary_weights collation t) (primary_weights collation u) ≡ leading_order collation (nfd t) (nfd u)
  unfolding primary_weights leading_order
  weights_lead t u = refl

  pub rests_lead : CommonBeginningsDoNotCount → PrimaryOrderIsOfWeights
      → (left right beginning other_beginning t u : List ℕ) → left ≡ beginning ++ t → right ≡ other_beginning ++ u → beginning ≡ other_beginning
      → IsRest collation t → IsRest collation u → leading_order collation (nfd t) (nfd u) ≡ leading_order collation (nfd left) (nfd right)
  rests_lead law weights left right beginning other_beginning t u e f g ht hu =
      let same : primary_order collation t u ≡ primary_order collation left right =
      rests_order (primary_collation collation) law tt left right beginning other_beginning t u e f g (rest_of_primaries t ht) (rest_of_primaries u hu) in
      sym (weights_lead t u) ∙ sym (weights collation t u) ∙ same ∙ weights collation left right ∙ weights_lead left right

  -- what the rests decide on the primary level, the texts decide
  pub cut_decides : (found : Option Ordering) (t u left right : List ℕ) → leading_order collation (nfd t) (nfd u) ≡ leading_order collation (nfd left) (nfd right)
      → IfSome found (λ o. (o ≡ leading_order collation (nfd t) (nfd u)) × (o ≢ Equal)) → IfSome found (λ o. o ≡ text_order collation left right)
  cut_decides None t u left right same h = tt
  cut_decides (Some o) t u left right same h =
      first_of_all o _ _ (leading_decides collation (nfd left) (nfd right) o (h.0 ∙ same) h.1) h.1 ∙ sym (order_in_two collation left right)

  -- ---- what characters give

  module _ {T : Type 0} (text : T → List ℕ) where
    pub primary_next : (old new : FactsCursor T) (e : Element) → GoesOn text old e new → last_variable_by collation < e.primary → GivesPrimary collation text old e.primary new
    primary_next old new e goes above = λ before after.
        let next = goes.1 before in
        (next.0, false, ap (primaries_given collation after) next.1 ∙ leading_primary collation after e (facts_give text new next.0) above)

    none_next : (old new : FactsCursor T) (e : Element) → GoesOn text old e new → e.primary ≡ 0 → GivesPrimaries collation text old [] new
    none_next old new e goes zero = λ before after.
        let next = goes.1 before in
        let none = no_primary collation after e (facts_give text new next.0) zero in
        (next.0, none.0, ap (primaries_given collation after) next.1 ∙ none.1)

    variable_next : (old new : FactsCursor T) (e : Element) → GoesOn text old e new → is_variable (last_variable_by collation) e ≡ true → GivesPrimaries collation text old [] new
    variable_next old new e goes is = λ before after.
        let next = goes.1 before in
        (next.0, true, ap (primaries_given collation after) next.1 ∙ variable_first collation after e (facts_give text new next.0) is)

    -- an element that doesn't count
    pub passed_next : (old new : FactsCursor T) (e : Element) → GoesOn text old e new → e.primary ≤ last_variable_by collation
        → (separator_primary < e.primary) ⊎ (e.primary ≡ 0) → GivesPrimaries collation text old [] new
    passed_next old new e goes below either =
        ⊎_elim (λ above. variable_next old new e goes (between_is_variable (last_variable_by collation) e above below)) (none_next old new e goes) either

    pub after_none : (old mid new : FactsCursor T) (ps : List ℕ) → GivesPrimaries collation text old [] mid → GivesPrimaries collation text mid ps new → GivesPrimaries collation text old ps new
    after_none old mid new ps h k = λ before after.
        let one = h before after in
        let other = k one.0 one.1 in
        (other.0, other.1, one.2 ∙ other.2)

    pub primary_found : (old mid new : FactsCursor T) (e : Element) → GivesPrimaries collation text old [] mid → GoesOn text mid e new → last_variable_by collation < e.primary
        → GivesPrimary collation text old e.primary new
    primary_found old mid new e h goes above = after_none old mid new (e.primary ∷ []) h (primary_next mid new e goes above)

    pub nothing_given : (c : FactsCursor T) → GivesPrimaries collation text c [] c
    nothing_given c = λ before after. (before, after, refl)

    pub reads_on : (t ps : List ℕ) (p : ℕ) (old new : FactsCursor T) → ReadsOn collation t ps text old → GivesPrimary collation text old p new → ReadsOn collation t (ps ++ p ∷ []) text new
    reads_on t ps p old new h k =
        let next = k h.0 h.1 in
        (next.0, next.1, h.2 ∙ ap (λ (qs : List ℕ). ps ++ qs) next.2 ∙ sym (append_assoc ps (p ∷ []) _))

    pub reads_from_start : (t : List ℕ) (c : FactsCursor T) → ((before : List ℕ) → facts_give text c before ≡ elements_after (reading_by collation) before (nfd t)) → ReadsOn collation t [] text c
    reads_from_start t c begins = ([], false, ap (primaries_given collation false) (sym (begins [])))

  -- two texts of which characters are read, up to primaries that decide
  pub facts_decide : {T U : Type 0} (text : T → List ℕ) (other : U → List ℕ) (t u xs : List ℕ) (p q : ℕ) (one : FactsCursor T) (two : FactsCursor U) (found : Option Ordering)
      → ReadsOn collation t (xs ++ p ∷ []) text one → ReadsOn collation u (xs ++ q ∷ []) other two → p ≢ 0 → q ≢ 0
      → ((ps qs : List ℕ) → IsFirst p ps → IsFirst q qs → IfSome found (Decides (map (reorder all) ps) (map (reorder all) qs)))
      → IfSome found (λ o. o ≡ text_order collation t u)
  facts_decide text other t u xs p q one two found h k m n decide =
      let ps = primaries_given collation h.1 (facts_give text one h.0) in
      let qs = primaries_given collation k.1 (facts_give other two k.0) in
      let left : primaries_of collation t ≡ xs ++ p ∷ ps = h.2 ∙ append_assoc xs (p ∷ []) ps in
      let right : primaries_of collation u ≡ xs ++ q ∷ qs = k.2 ∙ append_assoc xs (q ∷ []) qs in
      primaries_decide t u found
      (subst (λ (l : List ℕ). IfSome found (Decides (map (reorder all) l) (map (reorder all) (primaries_of collation u)))) (sym left)
      (subst (λ (l : List ℕ). IfSome found (Decides (map (reorder all) (xs ++ p ∷ ps)) (map (reorder all) l))) (sym right)
      (past_beginning_decides (reorder all) xs (p ∷ ps) (q ∷ qs) found (decide (p ∷ ps) (q ∷ qs) (refl, m) (refl, n)))))
