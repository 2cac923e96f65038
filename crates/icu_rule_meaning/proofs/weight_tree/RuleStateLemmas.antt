-- The states after a difference and before a weight.
use Rattle.std.proofs.Common.{◌≡◌, ℕ, suc, ◌-◌, min, List, [], ◌∷◌, ◌++◌, take, Option, Some, None, unwrap_or, refl, ap, ◌∙◌}
use Rattle.icu_rule_meaning.specs.declared.symbolic.SymbolicWeight.{SymbolicWeight}
use Rattle.icu_rule_meaning.specs.declared.symbolic.SymbolicWeight.TheVariants.{Tailored}
use Rattle.icu_rule_meaning.specs.declared.symbolic.SymbolicElement.{SymbolicElement}
use Rattle.icu_rule_meaning.specs.SymbolicElements.{element_with}
use Rattle.icu_rule_meaning.specs.WeightTrees.{WeightTree, with_new_weight, directly_before, above_level, weight_at_level}
use Rattle.icu_rule_meaning.specs.TailoredRoots.{Root}
use Rattle.icu_rule_meaning.specs.Steps.{TailoringState, counting_at, last_element, with_last_element, difference_step, before_step}
use Rattle.icu_rule_meaning.specs.weight_tree.TreeBuilders.{tree_before, weight_in_front}

-- an element with another weight at a level
pub other_is : (other e : SymbolicElement) (level count strength : ℕ) (new w : SymbolicWeight) → count ≡ level
    → strength ≡ min level e.strength → new ≡ w → other ≡ element_with (take (count - 1) e.weights ++ new ∷ []) strength
    → other ≡ element_with (take (level - 1) e.weights ++ w ∷ []) (min level e.strength)
other_is other e level count strength new w same least found is =
    is ∙ (ap (λ n. element_with (take (n - 1) e.weights ++ new ∷ []) strength) same
    ∙ (ap (λ s. element_with (take (level - 1) e.weights ++ new ∷ []) s) least
    ∙ ap (λ v. element_with (take (level - 1) e.weights ++ v ∷ []) (min level e.strength)) found))

-- the state after a difference
pub difference_is : (level : ℕ) (state : TailoringState) (tree : WeightTree) (elements counting : List SymbolicElement) (made : ℕ)
    (e other : SymbolicElement) → counting ≡ counting_at level state.elements → e ≡ last_element counting
    → tree ≡ with_new_weight state.tree level e.weights (Tailored state.made)
    → other ≡ element_with (take (level - 1) e.weights ++ Tailored state.made ∷ []) (min level e.strength)
    → elements ≡ with_last_element counting other → made ≡ suc state.made
    → (let after : TailoringState = record state { tree = tree; elements = elements; made = made } in after) ≡ difference_step level state
unfolding difference_step
difference_is level state tree elements counting made e other counts last is differs put more =
    rw (put, is, more, differs, last, counts) refl

found_is : (o : Option SymbolicWeight) (w : SymbolicWeight)
    → unwrap_or o w ≡ (let found : SymbolicWeight = elim o [ None ↦ w | Some lesser ↦ lesser ] in found)
found_is None w = refl
found_is (Some v) w = refl

-- the state before a weight
pub before_is : (root : Root) (level : ℕ) (state : TailoringState) (tree : WeightTree) (elements counting : List SymbolicElement)
    (made : ℕ) (e other : SymbolicElement) → counting ≡ counting_at level state.elements → e ≡ last_element counting
    → tree ≡ tree_before root state.tree level e.weights
    → other ≡ element_with (take (level - 1) e.weights ++ weight_in_front root state.tree level e.weights ∷ []) (min level e.strength)
    → elements ≡ with_last_element counting other → made ≡ state.made
    → (let after : TailoringState = record state { tree = tree; elements = elements; made = made } in after) ≡ before_step root level state
unfolding before_step
before_is root level state tree elements counting made e other counts last is differs put same =
    let weights = (last_element (counting_at level state.elements)).weights in
    let w = weight_at_level level weights in
    let o = directly_before w (tree_before root state.tree level weights (above_level level weights)) in
    rw (put, is, same, differs, last, counts, found_is o w) refl
