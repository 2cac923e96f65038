-- What a relation puts right after `[before n]` is less than the place of the reset.
use Rattle.std.proofs.Common.{◌≡◌, ◌≢◌, ◌<◌, ◌≤◌, ◌-◌, ℕ, zero, suc, Bool, true, false, ◌⊎◌, inl, inr, cond, nat_le, min, List, [], ◌∷◌, ◌++◌, map, filter, take, Option, Some, None, if◌then◌else◌, refl, ap, sym, subst, subst₂, ◌∙◌, arith}
use Rattle.std.specs.Prelude.{slice_index_or}
use Rattle.std.proofs.lemmas.Bool.{true≢false}
use Rattle.std.proofs.lemmas.Bool.Decides.{nat_tests}
use Rattle.std.proofs.Math.Nat.{min-le_left}
use Rattle.icu_options.specs.declared.settings.Strength.{Strength}
use Rattle.icu_options.specs.declared.settings.Strength.TheVariants.{Primary, Secondary, Tertiary, Quaternary, Identical}
use Rattle.icu_rule_meaning.specs.Rules.{ResetPlace, Rule, relation, reset, level_of}
use Rattle.icu_rule_meaning.specs.RelationLaws.{elements_at}
use Rattle.icu_rule_meaning.specs.Steps.{TailoringState, before_level, before_step, counting_at, difference_step, first_state, front_elements, last_element, place_elements, reset_step, rule_step, state_after, strength_step, tailoring_of, with_last_element, with_lesser}
use Rattle.icu_rule_meaning.specs.SymbolicElements.{are_same_weights, element_with, is_same_weight, to_all_levels}
use Rattle.icu_rule_meaning.specs.SymbolicOrders.{IsAmongWeights, IsOrderedBefore, KeepsOrder, NumbersTree}
use Rattle.icu_rule_meaning.specs.TailoredRoots.{Root}
use Rattle.icu_rule_meaning.specs.WeightTrees.{WeightTree, above_level, before_from, directly_before, weight_at_level, with_behind, with_new_weight, with_weights}
use Rattle.icu_rule_meaning.specs.declared.symbolic.SymbolicWeight.{SymbolicWeight}
use Rattle.icu_rule_meaning.specs.declared.symbolic.SymbolicWeight.TheVariants.{Tailored}
use Rattle.icu_rule_meaning.specs.declared.symbolic.SymbolicElement.{SymbolicElement}
use Rattle.icu_rule_meaning.proofs.TreeLemmas.{are_themselves, either, is_itself, same_weight_is, state_keeps, weights_keep}
use Rattle.icu_rule_meaning.proofs.WholeElements.{AreWhole, IsWhole, counting_whole, last_whole, new_whole, with_last_whole}
use Rattle.icu_rule_meaning.proofs.WholeStates.{level_within, place_whole, tailoring_whole}
use Rattle.icu_rule_meaning.proofs.RelationLemmas.{state_after-append}
use Rattle.icu_rule_weights.specs.declared.tailoring_numbers.tailoring_numbers.TailoringNumbers.{TailoringNumbers}
use Rattle.icu_rule_weights.specs.tailoring_numbers.Numberings.{number_of, numbering_of}
use Rattle.icu_rule_laws.specs.apart_elements.UpperWeights.{has_nonzero}
use Rattle.icu_rule_laws.specs.related_texts.RelationOrders.{HasWeightBefore}
use Rattle.icu_rule_laws.proofs.related_texts.RuleListLemmas.{EndsApart, counting_lists, front_last, full_by, ignorable_slot, lists-append, new_same, number_less, numbering_last, relation_tree, relation_weights, slot_counts, weight_lists}

-- ---- among siblings

abbrev StandsFrom : Option SymbolicWeight → SymbolicWeight → SymbolicWeight → List SymbolicWeight → Type 0
StandsFrom last w l xs = ((last ≡ Some l) × IsAmongWeights w xs) ⊎ IsOrderedBefore l w xs

from_here : (v w l : SymbolicWeight) (xs : List SymbolicWeight) → StandsFrom (Some v) w l xs → IsOrderedBefore l w (v ∷ xs)
from_here v w l xs (inl (same, among)) = inl ((cc, among))
from_here v w l xs (inr before) = inr before

found_here : (last further : Option SymbolicWeight) (v w l : SymbolicWeight) (xs : List SymbolicWeight)
    → (further ≡ Some l → StandsFrom (Some v) w l xs) → (b : Bool) → is_same_weight v w ≡ b → (if b then last else further) ≡ Some l
    → StandsFrom last w l (v ∷ xs)
found_here last further v w l xs more true same f = inl ((f, inl (same_weight_is v w same)))
found_here last further v w l xs more false apart f = inr (from_here v w l xs (more f))

before_found : (last : Option SymbolicWeight) (w l : SymbolicWeight) (xs : List SymbolicWeight) → before_from last w xs ≡ Some l
    → StandsFrom last w l xs
unfolding before_from
before_found last w l [] e = cc
before_found last w l (v ∷ xs) e =
    found_here last (before_from (Some v) w xs) v w l xs (λ f. before_found (Some v) w l xs f) (is_same_weight v w) refl e

not_from_none : (w l : SymbolicWeight) (xs : List SymbolicWeight) → StandsFrom None w l xs → IsOrderedBefore l w xs
not_from_none w l xs (inl (same, among)) = cc
not_from_none w l xs (inr before) = before

directly_before_is : (w l : SymbolicWeight) (xs : List SymbolicWeight) → directly_before w xs ≡ Some l → IsOrderedBefore l w xs
directly_before_is w l xs e = not_from_none w l xs (before_found None w l xs e)

before_among : (v w : SymbolicWeight) (xs : List SymbolicWeight) → IsOrderedBefore v w xs → IsAmongWeights w xs
before_among v w [] s = absurd s
before_among v w (x ∷ xs) (inl h) = inr h.1
before_among v w (x ∷ xs) (inr h) = inr (before_among v w xs h)

rest_among : (v w u : SymbolicWeight) (xs : List SymbolicWeight) → IsOrderedBefore v w (u ∷ xs) → IsAmongWeights w xs
rest_among v w u xs (inl h) = h.1
rest_among v w u xs (inr h) = before_among v w xs h

rest_before : (v w u : SymbolicWeight) (xs : List SymbolicWeight) → is_same_weight u v ≡ false → IsOrderedBefore v w (u ∷ xs) → IsOrderedBefore v w xs
rest_before v w u xs apart (inl h) = absurd (true≢false (sym (ap (λ x. is_same_weight x v) h.0 ∙ is_itself v) ∙ apart))
rest_before v w u xs apart (inr h) = h

-- a new weight directly behind another stands before what the other stands before
new_before : (v new w : SymbolicWeight) (xs : List SymbolicWeight) → IsOrderedBefore v w xs → IsOrderedBefore new w (with_behind v new xs)
unfolding with_behind
new_before v new w [] s = absurd s
new_before v new w (u ∷ xs) s =
    either (IsOrderedBefore new w) (is_same_weight u v) (u ∷ new ∷ xs) (u ∷ with_behind v new xs)
    (λ e. inr (inl ((refl, rest_among v w u xs s)))) (λ e. inr (new_before v new w xs (rest_before v w u xs e s)))

-- so it does in the tree
new_in_tree : (tree : WeightTree) (level : ℕ) (ws : List SymbolicWeight) (new w : SymbolicWeight)
    → IsOrderedBefore (weight_at_level level ws) w (tree (above_level level ws))
    → IsOrderedBefore new w (with_new_weight tree level ws new (above_level level ws))
new_in_tree tree level ws new w s =
    let above = above_level level ws in
    let placed = with_weights tree [] (take level ws) in
    let v = weight_at_level level ws in
    either (IsOrderedBefore new w) (are_same_weights above above) (with_behind v new (placed above)) (placed above)
    (λ _. new_before v new w (placed above) (weights_keep tree [] (take level ws) above v w s))
    (λ e. absurd (true≢false (sym (are_themselves above) ∙ e)))

-- ---- elements of which the last counts

last_counts : (n : ℕ) (es : List SymbolicElement) (g : SymbolicElement) → g.strength ≤ n → counting_at n (es ++ g ∷ []) ≡ es ++ g ∷ []
unfolding counting_at
last_counts n [] g l = ap (λ b. if b then g ∷ [] else []) (let t : nat_le g.strength n ≡ true = grind (arith, nat_tests) in t)
last_counts n (e ∷ es) g l =
    ap (λ fs. elim fs as (λ _. List SymbolicElement) [ [] ↦ if nat_le e.strength n then e ∷ [] else [] | f ∷ more ↦ e ∷ f ∷ more ]) (last_counts n es g l)
    ∙ some es
  where
    some : (es : List SymbolicElement)
        → (elim (es ++ g ∷ []) as (λ _. List SymbolicElement) [ [] ↦ if nat_le e.strength n then e ∷ [] else [] | f ∷ more ↦ e ∷ f ∷ more ]) ≡ e ∷ (es ++ g ∷ [])
    some [] = refl
    some (x ∷ es) = refl

last_is : (es : List SymbolicElement) (g : SymbolicElement) → last_element (es ++ g ∷ []) ≡ g
last_is [] g = refl
last_is (e ∷ []) g = refl
last_is (e ∷ f ∷ es) g = last_is (f ∷ es) g

front_is : (es : List SymbolicElement) (g : SymbolicElement) → front_elements (es ++ g ∷ []) ≡ es
front_is [] g = refl
front_is (e ∷ []) g = refl
front_is (e ∷ f ∷ es) g = ap (λ l. e ∷ l) (front_is (f ∷ es) g)

-- ---- weights of the first three levels

new_slot : (t : TailoringNumbers) (n : ℕ) → 1 ≤ n → n ≤ 3 → (e : SymbolicElement) (x : SymbolicWeight) (s : ℕ) → IsWhole e
    → slice_index_or (take n (full_by t (element_with (above_level n e.weights ++ x ∷ []) s).weights)) (n - 1) 0 ≡ number_of t x
new_slot t zero a b e x s w = absurd (omega arith)
new_slot t (suc zero) a b e x s w = refl
new_slot t (suc (suc zero)) a b e x s w = ap (λ ws. number_of t (weight_at_level 2 (to_all_levels (above_level 2 ws ++ x ∷ [])))) w.weights
new_slot t (suc (suc (suc zero))) a b e x s w = ap (λ ws. number_of t (weight_at_level 3 (to_all_levels (above_level 3 ws ++ x ∷ [])))) w.weights
new_slot t (suc (suc (suc (suc n)))) a b e x s w = absurd (omega arith)

own_slot : (t : TailoringNumbers) (n : ℕ) → 1 ≤ n → n ≤ 3 → (ws : List SymbolicWeight)
    → slice_index_or (take n (full_by t ws)) (n - 1) 0 ≡ number_of t (weight_at_level n ws)
own_slot t zero a b ws = absurd (omega arith)
own_slot t (suc zero) a b ws = refl
own_slot t (suc (suc zero)) a b ws = refl
own_slot t (suc (suc (suc zero))) a b ws = refl
own_slot t (suc (suc (suc (suc n)))) a b ws = absurd (omega arith)

new_above : (n : ℕ) → 1 ≤ n → n ≤ 3 → (e : SymbolicElement) (x : SymbolicWeight) (s : ℕ) → IsWhole e
    → above_level n (element_with (above_level n e.weights ++ x ∷ []) s).weights ≡ above_level n e.weights
new_above zero a b e x s w = absurd (omega arith)
new_above (suc zero) a b e x s w = refl
new_above (suc (suc zero)) a b e x s w =
    ap (λ ws. above_level 2 (to_all_levels (above_level 2 ws ++ x ∷ []))) w.weights ∙ sym (ap (above_level 2) w.weights)
new_above (suc (suc (suc zero))) a b e x s w =
    ap (λ ws. above_level 3 (to_all_levels (above_level 3 ws ++ x ∷ []))) w.weights ∙ sym (ap (above_level 3) w.weights)
new_above (suc (suc (suc (suc n)))) a b e x s w = absurd (omega arith)

new_weight_is : (n : ℕ) → 1 ≤ n → n ≤ 3 → (e : SymbolicElement) (x : SymbolicWeight) (s : ℕ) → IsWhole e
    → weight_at_level n (element_with (above_level n e.weights ++ x ∷ []) s).weights ≡ x
new_weight_is zero a b e x s w = absurd (omega arith)
new_weight_is (suc zero) a b e x s w = refl
new_weight_is (suc (suc zero)) a b e x s w = ap (λ ws. weight_at_level 2 (to_all_levels (above_level 2 ws ++ x ∷ []))) w.weights
new_weight_is (suc (suc (suc zero))) a b e x s w = ap (λ ws. weight_at_level 3 (to_all_levels (above_level 3 ws ++ x ∷ []))) w.weights
new_weight_is (suc (suc (suc (suc n)))) a b e x s w = absurd (omega arith)

take_more : (t : TailoringNumbers) (n : ℕ) → 1 ≤ n → n ≤ 3 → (ws vs : List SymbolicWeight)
    → take (n - 1) (full_by t ws) ≡ take (n - 1) (full_by t vs) → take (n - 1) (take n (full_by t ws)) ≡ take (n - 1) (take n (full_by t vs))
take_more t zero a b ws vs e = absurd (omega arith)
take_more t (suc zero) a b ws vs e = e
take_more t (suc (suc zero)) a b ws vs e = e
take_more t (suc (suc (suc zero))) a b ws vs e = e
take_more t (suc (suc (suc (suc n)))) a b ws vs e = absurd (omega arith)

-- the last of elements that count is the last of what levels compare
last_lists : (t : TailoringNumbers) (n : ℕ) → 1 ≤ n → n ≤ 4 → (es : List SymbolicElement)
    → slice_index_or (take n (full_by t (last_element es).weights)) (n - 1) 0 ≢ 0
    → weight_lists n t es ≡ weight_lists n t (front_elements es) ++ take n (full_by t (last_element es).weights) ∷ []
last_lists t n a b [] some = absurd (some (ignorable_slot t n a b))
last_lists t n a b (e ∷ es) some =
    let old = last_element (e ∷ es) in
    ap (weight_lists n t) (front_last e es) ∙ lists-append n t (front_elements (e ∷ es)) (old ∷ [])
    ∙ ap (λ c. weight_lists n t (front_elements (e ∷ es)) ++ cond c (take n (full_by t old.weights) ∷ []) []) (slot_counts (take n (full_by t old.weights)) (n - 1) some)

-- ---- a difference from elements of which the last counts

module _ (t : TailoringNumbers) (tree : WeightTree) (numbers : NumbersTree tree (numbering_of t)) (n : ℕ) (a : 1 ≤ n) (b : n ≤ 3) (state : TailoringState)
    (whole : AreWhole state.elements) (fs : List SymbolicElement) (g : SymbolicElement) (is : state.elements ≡ fs ++ g ∷ []) (counts : g.strength ≤ n)
    (whole_last : IsWhole g) (keeps : KeepsOrder (difference_step n state).tree tree) where
  abbrev new_weight : SymbolicWeight
  new_weight = Tailored state.made

  abbrev new_element : SymbolicElement
  new_element = element_with (above_level n g.weights ++ new_weight ∷ []) (min n g.strength)

  counting : counting_at n state.elements ≡ fs ++ g ∷ []
  counting = ap (counting_at n) is ∙ last_counts n fs g counts

  elements_after : (difference_step n state).elements ≡ fs ++ new_element ∷ []
  unfolding difference_step
  elements_after =
      ap (λ (es : List SymbolicElement). with_last_element es (element_with (above_level n (last_element es).weights ++ new_weight ∷ []) (min n (last_element es).strength))) counting
      ∙ ap (λ (l : List SymbolicElement). l ++ element_with (above_level n (last_element (fs ++ g ∷ [])).weights ++ new_weight ∷ []) (min n (last_element (fs ++ g ∷ [])).strength) ∷ []) (front_is fs g)
      ∙ ap (λ (h : SymbolicElement). fs ++ element_with (above_level n h.weights ++ new_weight ∷ []) (min n h.strength) ∷ []) (last_is fs g)

  tree_after : (difference_step n state).tree ≡ with_new_weight state.tree n g.weights new_weight
  unfolding difference_step
  tree_after =
      ap (λ (es : List SymbolicElement). with_new_weight state.tree n (last_element es).weights new_weight) counting
      ∙ ap (λ (h : SymbolicElement). with_new_weight state.tree n h.weights new_weight) (last_is fs g)

  some : number_of t new_weight ≢ 0
  some = λ z. let l = number_less t tree numbers state whole n (omega arith) n keeps in omega (arith, l, z)

  slot_new : slice_index_or (take n (full_by t new_element.weights)) (n - 1) 0 ≡ number_of t new_weight
  slot_new = new_slot t n a b g new_weight (min n g.strength) whole_last

  lists_after : weight_lists n t (difference_step n state).elements ≡ weight_lists n t fs ++ take n (full_by t new_element.weights) ∷ []
  lists_after =
      ap (weight_lists n t) elements_after ∙ lists-append n t fs (new_element ∷ [])
      ∙ ap (λ c. weight_lists n t fs ++ cond c (take n (full_by t new_element.weights) ∷ []) []) (slot_counts (take n (full_by t new_element.weights)) (n - 1) (λ z. some (sym slot_new ∙ z)))

  -- the new weight is less than one that the last stands before
  less_than : (w : SymbolicWeight) → IsOrderedBefore (weight_at_level n g.weights) w (state.tree (above_level n g.weights))
      → number_of t new_weight < number_of t w
  less_than w before =
      let above = above_level n g.weights in
      let stands : IsOrderedBefore new_weight w ((difference_step n state).tree above) =
      subst (λ (later : WeightTree). IsOrderedBefore new_weight w (later above)) (sym tree_after) (new_in_tree state.tree n g.weights new_weight w before) in
      subst₂ (λ u v. u < v) (numbering_last t above new_weight) (numbering_last t above w) (numbers.ascends above new_weight w (keeps above new_weight w stands))

-- ---- before a place

found_before : (o : Option SymbolicWeight) (w : SymbolicWeight) (xs : List SymbolicWeight) → directly_before w xs ≡ o → o ≢ None
    → IsOrderedBefore (elim o as (λ _. SymbolicWeight) [ None ↦ w | Some lesser ↦ lesser ]) w xs
found_before None w xs is goes = absurd (goes refl)
found_before (Some l) w xs is goes = directly_before_is w l xs is

module _ (root : Root) (t : TailoringNumbers) (tree : WeightTree) (numbers : NumbersTree tree (numbering_of t)) (n : ℕ) (a : 1 ≤ n) (b : n ≤ 3)
    (state : TailoringState) (whole : AreWhole state.elements) (goes : HasWeightBefore root n state state.elements) where
  abbrev countings : List SymbolicElement
  countings = counting_at n state.elements

  abbrev last_e : SymbolicElement
  last_e = last_element countings

  abbrev above_e : List SymbolicWeight
  above_e = above_level n last_e.weights

  abbrev weight_e : SymbolicWeight
  weight_e = weight_at_level n last_e.weights

  abbrev lesser_tree : WeightTree
  lesser_tree = with_lesser root (with_weights state.tree [] (take n last_e.weights)) above_e weight_e

  abbrev found : SymbolicWeight
  found = elim (directly_before weight_e (lesser_tree above_e)) as (λ _. SymbolicWeight) [ None ↦ weight_e | Some lesser ↦ lesser ]

  abbrev before_e : SymbolicElement
  before_e = element_with (above_e ++ found ∷ []) (min n last_e.strength)

  abbrev before_it : TailoringState
  before_it = before_step root n state

  elements_before : before_it.elements ≡ front_elements countings ++ before_e ∷ []
  unfolding before_step
  elements_before = refl

  tree_before : before_it.tree ≡ lesser_tree
  unfolding before_step
  tree_before = refl

  whole_e : IsWhole last_e
  whole_e = last_whole countings (counting_whole n state.elements whole)

  whole_before_e : IsWhole before_e
  whole_before_e = new_whole n last_e found a (omega arith) whole_e

  whole_before : AreWhole before_it.elements
  whole_before =
      subst AreWhole (sym elements_before) (with_last_whole countings before_e (counting_whole n state.elements whole) whole_before_e)

  stands : IsOrderedBefore (weight_at_level n before_e.weights) weight_e (before_it.tree (above_level n before_e.weights))
  stands =
      subst₂ (λ (v : SymbolicWeight) (above : List SymbolicWeight). IsOrderedBefore v weight_e (before_it.tree above))
      (sym (new_weight_is n a b last_e found (min n last_e.strength) whole_e)) (sym (new_above n a b last_e found (min n last_e.strength) whole_e))
      (subst (λ (later : WeightTree). IsOrderedBefore found weight_e (later above_e)) (sym tree_before)
      (found_before (directly_before weight_e (lesser_tree above_e)) weight_e (lesser_tree above_e) refl goes))

  few_strength : min n last_e.strength ≤ n
  few_strength = min-le_left n last_e.strength

  module _ (keeps : KeepsOrder (difference_step n before_it).tree tree) where
    abbrev made : SymbolicWeight
    made = Tailored before_it.made

    abbrev new_e : SymbolicElement
    new_e = element_with (above_level n before_e.weights ++ made ∷ []) (min n (min n last_e.strength))

    less : number_of t made < number_of t weight_e
    less =
        less_than t tree numbers n a b before_it whole_before (front_elements countings) before_e elements_before few_strength whole_before_e keeps weight_e stands

    slot_e : slice_index_or (take n (full_by t last_e.weights)) (n - 1) 0 ≡ number_of t weight_e
    slot_e = own_slot t n a b last_e.weights

    slot_made : slice_index_or (take n (full_by t new_e.weights)) (n - 1) 0 ≡ number_of t made
    slot_made = new_slot t n a b before_e made (min n (min n last_e.strength)) whole_before_e

    pub before_ends : EndsApart n (weight_lists n t (difference_step n before_it).elements) (weight_lists n t state.elements)
    before_ends =
        let l = less in
        record {
          front = weight_lists n t (front_elements countings);
          u = take n (full_by t new_e.weights);
          v = take n (full_by t last_e.weights);
          left =
              lists_after t tree numbers n a b before_it whole_before (front_elements countings) before_e elements_before few_strength whole_before_e keeps;
          right =
              sym (counting_lists t n n (omega arith) (omega arith) state.elements whole)
              ∙ last_lists t n a (omega arith) countings (λ z. let f = slot_e in omega (arith, f, z, l));
          above =
              take_more t n a b new_e.weights last_e.weights
              (new_same t (n - 1) n before_e made (min n (min n last_e.strength)) (omega arith) (omega arith) whole_before_e
              ∙ new_same t (n - 1) n last_e found (min n last_e.strength) (omega arith) (omega arith) whole_e);
          counts = λ z. some t tree numbers n a b before_it whole_before (front_elements countings) before_e elements_before few_strength whole_before_e keeps (sym slot_made ∙ z);
          less = subst₂ (λ p q. p < q) (sym slot_made) (sym slot_e) l;
        }

-- ---- a reset and the relation after it

as_difference : (strength : Strength) (state : TailoringState) → level_of strength ≤ 3 → strength_step strength state ≡ difference_step (level_of strength) state
as_difference Primary state l = refl
as_difference Secondary state l = refl
as_difference Tertiary state l = refl
as_difference Quaternary state l = absurd (omega arith)
as_difference Identical state l = absurd (omega arith)

low_before : (before : Strength) → before_level before ≤ 3
low_before Primary = omega arith
low_before Secondary = omega arith
low_before Tertiary = omega arith
low_before Quaternary = omega arith
low_before Identical = omega arith

reset_is : (root : Root) (before : Strength) (place : ResetPlace) (state : TailoringState)
    → reset_step root (Some before) place state ≡ before_step root (before_level before) (record state { elements = place_elements root state place })
unfolding reset_step
reset_is root before place state = refl

pub before_parts : (root : Root) (t : TailoringNumbers) (before : Strength) (place : ResetPlace) (strength : Strength) (prefix string extension : List ℕ)
    (earlier later : List Rule)
    → NumbersTree (tailoring_of root (earlier ++ reset (Some before) place ∷ relation strength prefix string extension ∷ later)).tree (numbering_of t)
    → level_of strength ≡ before_level before
    → HasWeightBefore root (before_level before) (tailoring_of root earlier) (place_elements root (tailoring_of root earlier) place)
    → EndsApart (before_level before)
    (weight_lists (before_level before) t (elements_at root (earlier ++ reset (Some before) place ∷ relation strength prefix string extension ∷ [])))
    (weight_lists (before_level before) t (place_elements root (tailoring_of root earlier) place))
before_parts root t before place strength prefix string extension earlier later given same goes =
    let n = before_level before in
    let r : Rule = reset (Some before) place in
    let rule : Rule = relation strength prefix string extension in
    let first = tailoring_of root earlier in
    let at : TailoringState = record first { elements = place_elements root first place } in
    let low = low_before before in
    let second = reset_step root (Some before) place first in
    let third = rule_step root second rule in
    let last = state_after root third later in
    let numbers : NumbersTree last.tree (numbering_of t) =
    subst (λ (s : TailoringState). NumbersTree s.tree (numbering_of t)) (state_after-append root (first_state root) earlier (r ∷ rule ∷ later)) given in
    let different : strength_step strength second ≡ difference_step n (before_step root n at) =
    as_difference strength second (subst (λ k. k ≤ 3) (sym same) low) ∙ ap (λ k. difference_step k second) same
    ∙ ap (difference_step n) (reset_is root before place first) in
    let keeps : KeepsOrder (difference_step n (before_step root n at)).tree last.tree =
    subst (λ (s : TailoringState). KeepsOrder s.tree last.tree) different
    (subst (λ (tree : WeightTree). KeepsOrder tree last.tree) (relation_tree root strength prefix string extension second) (state_keeps root third later)) in
    let of_relation : weight_lists n t (difference_step n (before_step root n at)).elements
    ≡ weight_lists n t (elements_at root (earlier ++ r ∷ rule ∷ [])) =
    sym (ap (λ (s : TailoringState). weight_lists n t s.elements) different)
    ∙ sym (ap (λ wss. filter has_nonzero (map (λ ws. take n (full_by t ws)) wss)) (relation_weights root strength prefix string extension second))
    ∙ sym (ap (λ (s : TailoringState). weight_lists n t s.elements) (state_after-append root (first_state root) earlier (r ∷ rule ∷ []))) in
    subst (λ xss. EndsApart n xss (weight_lists n t (place_elements root first place))) of_relation
    (before_ends root t last.tree numbers n (level_within before).0 low at (place_whole root first place (tailoring_whole root earlier)) goes keeps)
