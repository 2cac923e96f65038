-- Rules put weights between others, and move none.
use Rattle.std.proofs.Common.{◌≡◌, ℕ, Bool, true, false, ◌==◌, inl, inr, nat_lt, List, [], ◌∷◌, ◌++◌, take, Option, Some, None, if◌then◌else◌, refl, ap, sym, subst, ◌∙◌}
use Rattle.std.proofs.lemmas.Bool.{eqb-true, eq-eqb, and_parts}
use Rattle.icu_options.specs.declared.settings.Strength.{Strength}
use Rattle.icu_options.specs.declared.settings.Strength.TheVariants.{Primary, Secondary, Tertiary, Quaternary, Identical}
use Rattle.unicode_normalization.specs.Forms.{nfd}
use Rattle.icu_rule_meaning.specs.Rules.{ResetPlace, Rule, reset, relation, suppression, setting}
use Rattle.icu_rule_meaning.specs.declared.symbolic.SymbolicWeight.{SymbolicWeight}
use Rattle.icu_rule_meaning.specs.declared.symbolic.SymbolicWeight.TheVariants.{Rooted, Tailored}
use Rattle.icu_rule_meaning.specs.declared.symbolic.SymbolicElement.{SymbolicElement}
use Rattle.icu_rule_meaning.specs.SymbolicElements.{is_same_weight, are_same_weights}
use Rattle.icu_rule_meaning.specs.WeightTrees.{WeightTree, with_siblings, with_rooted, with_behind, with_weight, with_weights, with_new_weight, above_level, weight_at_level}
use Rattle.icu_rule_meaning.specs.TailoredRoots.{Root, lesser_weight}
use Rattle.icu_rule_meaning.specs.Steps.{TailoringState, counting_at, last_element, with_lesser, place_elements, before_level, before_step, reset_step, difference_step, strength_step, case_step, mapping_step, relation_step, suppression_step, rule_step, state_after}
use Rattle.icu_rule_meaning.specs.SymbolicOrders.{IsAmongWeights, IsOrderedBefore, KeepsOrder}

pub either : {A : Type 0} (P : A → Type 0) (b : Bool) (x y : A) → (b ≡ true → P x) → (b ≡ false → P y) → P (if b then x else y)
either P true x y p q = p refl
either P false x y p q = q refl

-- ---- the same weights

pub same_weight_is : (v w : SymbolicWeight) → is_same_weight v w ≡ true → v ≡ w
same_weight_is (Rooted v) (Rooted w) e = ap Rooted (eqb-true v w e)
same_weight_is (Tailored v) (Tailored w) e = ap Tailored (eqb-true v w e)
same_weight_is (Rooted v) (Tailored w) e = cc
same_weight_is (Tailored v) (Rooted w) e = cc

pub is_itself : (w : SymbolicWeight) → is_same_weight w w ≡ true
is_itself (Rooted w) = eq-eqb w w refl
is_itself (Tailored k) = eq-eqb k k refl

pub same_weights_are : (vs ws : List SymbolicWeight) → are_same_weights vs ws ≡ true → vs ≡ ws
same_weights_are [] [] e = refl
same_weights_are [] (w ∷ ws) e = cc
same_weights_are (v ∷ vs) [] e = cc
same_weights_are (v ∷ vs) (w ∷ ws) e =
    let (first, rest) = and_parts (is_same_weight v w) (are_same_weights vs ws) e in
    ap (λ x. x ∷ vs) (same_weight_is v w first) ∙ ap (λ xs. w ∷ xs) (same_weights_are vs ws rest)

pub are_themselves : (ws : List SymbolicWeight) → are_same_weights ws ws ≡ true
are_themselves [] = refl
are_themselves (w ∷ ws) = rw (is_itself w, are_themselves ws) refl

-- ---- among siblings

pub among_rooted : (n : ℕ) (w : SymbolicWeight) (xs : List SymbolicWeight) → IsAmongWeights w xs → IsAmongWeights w (with_rooted n xs)
unfolding with_rooted
among_rooted n w [] a = absurd a
among_rooted n w (Tailored k ∷ xs) (inl e) = inl e
among_rooted n w (Tailored k ∷ xs) (inr a) = inr (among_rooted n w xs a)
among_rooted n w (Rooted u ∷ xs) a =
    let further : IsAmongWeights w (Rooted u ∷ with_rooted n xs) = elim a [ inl e ↦ inl e | inr b ↦ inr (among_rooted n w xs b) ] in
    let later : List SymbolicWeight = if nat_lt n u then Rooted n ∷ Rooted u ∷ xs else Rooted u ∷ with_rooted n xs in
    either (IsAmongWeights w) (n == u) (Rooted u ∷ xs) later (λ _. a)
    (λ _. either (IsAmongWeights w) (nat_lt n u) (Rooted n ∷ Rooted u ∷ xs) (Rooted u ∷ with_rooted n xs) (λ _. inr a) (λ _. further))

pub keeps_rooted : (n : ℕ) (v w : SymbolicWeight) (xs : List SymbolicWeight) → IsOrderedBefore v w xs
    → IsOrderedBefore v w (with_rooted n xs)
unfolding with_rooted
keeps_rooted n v w [] s = absurd s
keeps_rooted n v w (Tailored k ∷ xs) (inl e) = inl (e.0, among_rooted n w xs e.1)
keeps_rooted n v w (Tailored k ∷ xs) (inr s) = inr (keeps_rooted n v w xs s)
keeps_rooted n v w (Rooted u ∷ xs) s =
    let further : IsOrderedBefore v w (Rooted u ∷ with_rooted n xs) = elim s [
      | inl e ↦ inl (e.0, among_rooted n w xs e.1)
      | inr t ↦ inr (keeps_rooted n v w xs t)
    ] in
    let later : List SymbolicWeight = if nat_lt n u then Rooted n ∷ Rooted u ∷ xs else Rooted u ∷ with_rooted n xs in
    either (IsOrderedBefore v w) (n == u) (Rooted u ∷ xs) later (λ _. s)
    (λ _. either (IsOrderedBefore v w) (nat_lt n u) (Rooted n ∷ Rooted u ∷ xs) (Rooted u ∷ with_rooted n xs) (λ _. inr s) (λ _. further))

pub among_behind : (x new w : SymbolicWeight) (xs : List SymbolicWeight) → IsAmongWeights w xs → IsAmongWeights w (with_behind x new xs)
unfolding with_behind
among_behind x new w [] a = absurd a
among_behind x new w (u ∷ xs) a =
    let close : IsAmongWeights w (u ∷ new ∷ xs) = elim a [ inl e ↦ inl e | inr b ↦ inr (inr b) ] in
    let further : IsAmongWeights w (u ∷ with_behind x new xs) = elim a [ inl e ↦ inl e | inr b ↦ inr (among_behind x new w xs b) ] in
    either (IsAmongWeights w) (is_same_weight u x) (u ∷ new ∷ xs) (u ∷ with_behind x new xs) (λ _. close) (λ _. further)

pub keeps_behind : (x new v w : SymbolicWeight) (xs : List SymbolicWeight) → IsOrderedBefore v w xs
    → IsOrderedBefore v w (with_behind x new xs)
unfolding with_behind
keeps_behind x new v w [] s = absurd s
keeps_behind x new v w (u ∷ xs) s =
    let close : IsOrderedBefore v w (u ∷ new ∷ xs) = elim s [ inl e ↦ inl (e.0, inr e.1) | inr t ↦ inr (inr t) ] in
    let further : IsOrderedBefore v w (u ∷ with_behind x new xs) = elim s [
      | inl e ↦ inl (e.0, among_behind x new w xs e.1)
      | inr t ↦ inr (keeps_behind x new v w xs t)
    ] in
    either (IsOrderedBefore v w) (is_same_weight u x) (u ∷ new ∷ xs) (u ∷ with_behind x new xs) (λ _. close) (λ _. further)

-- the new weight stands behind the other
pub stands_behind : (w new : SymbolicWeight) (xs : List SymbolicWeight) → IsOrderedBefore w new (with_behind w new xs)
unfolding with_behind
stands_behind w new [] = inl (refl, inl refl)
stands_behind w new (u ∷ xs) =
    either (IsOrderedBefore w new) (is_same_weight u w) (u ∷ new ∷ xs) (u ∷ with_behind w new xs)
    (λ e. inl (same_weight_is u w e, inl refl)) (λ _. inr (stands_behind w new xs))

-- ---- in the tree

pub siblings_keep : (tree : WeightTree) (above siblings : List SymbolicWeight)
    → ((v w : SymbolicWeight) → IsOrderedBefore v w (tree above) → IsOrderedBefore v w siblings)
    → KeepsOrder tree (with_siblings tree above siblings)
siblings_keep tree above siblings keeps other v w s =
    either (IsOrderedBefore v w) (are_same_weights other above) siblings (tree other)
    (λ e. keeps v w (subst (λ o. IsOrderedBefore v w (tree o)) (same_weights_are other above e) s)) (λ _. s)

pub weight_keeps : (tree : WeightTree) (above : List SymbolicWeight) (w : SymbolicWeight)
    → KeepsOrder tree (with_weight tree above w)
weight_keeps tree above (Rooted n) =
    siblings_keep tree above (with_rooted n (tree above)) (λ v w. keeps_rooted n v w (tree above))
weight_keeps tree above (Tailored k) = λ other v w s. s

pub weights_keep : (tree : WeightTree) (above ws : List SymbolicWeight) → KeepsOrder tree (with_weights tree above ws)
unfolding with_weights
weights_keep tree above [] = λ other v w s. s
weights_keep tree above (x ∷ ws) = λ other v w s.
    weights_keep (with_weight tree above x) (above ++ x ∷ []) ws other v w (weight_keeps tree above x other v w s)

pub new_weight_keeps : (tree : WeightTree) (level : ℕ) (ws : List SymbolicWeight) (new : SymbolicWeight)
    → KeepsOrder tree (with_new_weight tree level ws new)
new_weight_keeps tree level ws new = λ other v w s.
    let above = above_level level ws in
    let placed = with_weights tree [] (take level ws) in
    siblings_keep placed above (with_behind (weight_at_level level ws) new (placed above))
    (λ a b. keeps_behind (weight_at_level level ws) new a b (placed above)) other v w
    (weights_keep tree [] (take level ws) other v w s)

pub lesser_keeps : (root : Root) (tree : WeightTree) (above : List SymbolicWeight) (w : SymbolicWeight)
    → KeepsOrder tree (with_lesser root tree above w)
lesser_keeps root tree above (Rooted n) = weight_keeps tree above (Rooted (lesser_weight root above n))
lesser_keeps root tree above (Tailored k) = λ other v w s. s

pub before_keeps : (root : Root) (level : ℕ) (state : TailoringState) → KeepsOrder state.tree (before_step root level state).tree
unfolding before_step
before_keeps root level state = λ other v w s.
    let e = last_element (counting_at level state.elements) in
    lesser_keeps root (with_weights state.tree [] (take level e.weights)) (above_level level e.weights)
    (weight_at_level level e.weights) other v w (weights_keep state.tree [] (take level e.weights) other v w s)

pub reset_keeps : (root : Root) (before : Option Strength) (place : ResetPlace) (state : TailoringState)
    → KeepsOrder state.tree (reset_step root before place state).tree
unfolding reset_step
reset_keeps root None place state = λ other v w s. s
reset_keeps root (Some strength) place state =
    before_keeps root (before_level strength) (record state { elements = place_elements root state place })

pub difference_keeps : (level : ℕ) (state : TailoringState) → KeepsOrder state.tree (difference_step level state).tree
unfolding difference_step
difference_keeps level state =
    new_weight_keeps state.tree level (last_element (counting_at level state.elements)).weights (Tailored state.made)

pub strength_keeps : (strength : Strength) (state : TailoringState) → KeepsOrder state.tree (strength_step strength state).tree
strength_keeps Primary state = difference_keeps 1 state
strength_keeps Secondary state = difference_keeps 2 state
strength_keeps Tertiary state = difference_keeps 3 state
strength_keeps Quaternary state = difference_keeps 4 state
strength_keeps Identical state = λ other v w s. s

pub mapping_tree : (prefix string : List ℕ) (es : List SymbolicElement) (state : TailoringState)
    → (mapping_step prefix string es state).tree ≡ state.tree
mapping_tree prefix [] es state = refl
mapping_tree prefix (c ∷ suffix) es state = refl

pub rule_keeps : (root : Root) (state : TailoringState) (rule : Rule) → KeepsOrder state.tree (rule_step root state rule).tree
unfolding relation_step suppression_step
rule_keeps root state (reset before place) = reset_keeps root before place state
rule_keeps root state (relation strength prefix string extension) = λ other v w s.
    subst (λ (t : WeightTree). IsOrderedBefore v w (t other))
    (sym (mapping_tree (nfd prefix) (nfd string) _ (case_step root (nfd string) (strength_step strength state))))
    (strength_keeps strength state other v w s)
rule_keeps root state (suppression ranges) = λ other v w s. s
rule_keeps root state (setting said) = λ other v w s. s

-- what stands before another weight does so whatever rules follow
pub state_keeps : (root : Root) (state : TailoringState) (rules : List Rule)
    → KeepsOrder state.tree (state_after root state rules).tree
state_keeps root state [] = λ other v w s. s
state_keeps root state (rule ∷ rules) = λ other v w s.
    state_keeps root (rule_step root state rule) rules other v w (rule_keeps root state rule other v w s)
