-- The elements of logical positions (UTS #35 part 5, "Collation Tailorings").
use Rattle.std.specs.Prelude.{ℕ, zero, suc, not, ◌==◌, ◌-◌, if◌then◌else◌, List, [], ◌∷◌, ◌++◌, filter, take_while, drop, length, Some, None}
use Rattle.std.specs.List.{list_any}
use Rattle.icu_rule_parser.specs.declared.statement.LogicalPosition.{LogicalPosition}
use Rattle.icu_rule_parser.specs.declared.statement.LogicalPosition.TheVariants as positions
use Rattle.icu_rule_meaning.specs.declared.symbolic.SymbolicWeight.{SymbolicWeight}
use Rattle.icu_rule_meaning.specs.declared.symbolic.SymbolicWeight.TheVariants.{Rooted}
use Rattle.icu_rule_meaning.specs.declared.symbolic.SymbolicElement.{SymbolicElement}
use Rattle.icu_rule_meaning.specs.SymbolicElements.{has_tailored_weight, is_same_weight, common_below, to_all_levels, element_with, ignorable}
use Rattle.icu_rule_meaning.specs.WeightTrees.{WeightTree, put_behind}
use Rattle.icu_rule_meaning.specs.TailoredRoots.{Root, first_above}

-- the first of the weights, or 0
abbrev pub first_number : List ℕ → ℕ
first_number [] = 0
first_number (w ∷ ws) = w

-- the last of the weights, or what stands before them
abbrev pub last_number : ℕ → List ℕ → ℕ
last_number found [] = found
last_number found (w ∷ ws) = last_number w ws

-- the last of the weights, or what stands before them
abbrev pub last_weight : SymbolicWeight → List SymbolicWeight → SymbolicWeight
last_weight found [] = found
last_weight found (w ∷ ws) = last_weight w ws

-- the weights that aren't 0
abbrev pub nonzero_weights : List ℕ → List ℕ
nonzero_weights = filter (λ w. not (w == 0))

-- the weights that were tailored directly behind one of the root
abbrev pub tailored_behind : WeightTree → List SymbolicWeight → SymbolicWeight → List SymbolicWeight
tailored_behind tree above w = take_while has_tailored_weight (put_behind w (tree above))

-- the first of the weights, or another one
abbrev pub first_weight_or : SymbolicWeight → List SymbolicWeight → SymbolicWeight
first_weight_or other [] = other
first_weight_or other (w ∷ ws) = w

-- the weights before the common one
abbrev pub before_common : WeightTree → List SymbolicWeight → List SymbolicWeight
before_common tree above = take_while (λ w. not (is_same_weight w (common_below above))) (tree above)

-- the first tailored weight before the common one below these, or the common one
abbrev pub first_tailored_below : WeightTree → List SymbolicWeight → SymbolicWeight
first_tailored_below tree above = first_weight_or (common_below above) (filter has_tailored_weight (before_common tree above))

-- a primary weight with what was tailored first below it: secondary and tertiary weights before the common ones
abbrev pub first_of_primary : WeightTree → SymbolicWeight → List SymbolicWeight
first_of_primary tree p =
    let primary = p ∷ [] in
    let s : SymbolicWeight = first_tailored_below tree primary in
    let secondary = primary ++ s ∷ [] in
    let t : SymbolicWeight = first_tailored_below tree secondary in
    secondary ++ t ∷ []

-- weights with the last ones below them on so many levels
abbrev pub with_last : ℕ → WeightTree → List SymbolicWeight → List SymbolicWeight
with_last zero tree above = above
with_last (suc levels) tree above =
    with_last levels tree (above ++ last_weight (common_below above) (tree above) ∷ [])

-- weights with the last ones below them, where one of these is tailored, and else with common ones
abbrev pub last_of : WeightTree → List SymbolicWeight → List SymbolicWeight
last_of tree above =
    let last = with_last (4 - length above) tree above in
    if list_any has_tailored_weight (drop (length above) last) then last else to_all_levels above

-- the last of what was tailored behind a weight of the root, at its level and below
abbrev pub last_from : WeightTree → List SymbolicWeight → ℕ → List SymbolicWeight
last_from tree above w =
    last_of tree (above ++ last_weight (Rooted w) (tailored_behind tree above (Rooted w)) ∷ [])

-- What was tailored first behind or below the weight that begins a group, or the next primary weight of the root: the
-- first weight of a group is of no text.
abbrev pub first_of_group : Root → WeightTree → ℕ → List SymbolicWeight
first_of_group root tree p =
    let next : SymbolicWeight = elim (first_above (root.weights []) p) [ Some w ↦ Rooted w | None ↦ Rooted p ] in
    let below = first_of_primary tree (Rooted p) in
    if list_any has_tailored_weight below then below
    else (elim (tailored_behind tree [] (Rooted p)) [
      | [] ↦ first_of_primary tree next
      | w ∷ _ ↦ w ∷ []
    ])

-- the first tailored weight behind 0 below these, or else a weight of the root
abbrev pub first_ignored : WeightTree → List SymbolicWeight → ℕ → SymbolicWeight
first_ignored tree above w = first_weight_or (Rooted w) (tailored_behind tree above (Rooted 0))

-- the element of a logical position; of those that no rule may name, the one that is ignorable
abbrev pub position_element : Root → WeightTree → LogicalPosition → SymbolicElement
position_element root tree positions.FirstSecondaryIgnorable =
    let above : List SymbolicWeight = Rooted 0 ∷ Rooted 0 ∷ [] in
    let first = first_number (nonzero_weights (root.weights (0 ∷ 0 ∷ []))) in
    element_with (above ++ first_ignored tree above first ∷ []) 3
position_element root tree positions.LastSecondaryIgnorable =
    element_with (last_from tree (Rooted 0 ∷ Rooted 0 ∷ []) (last_number 0 (root.weights (0 ∷ 0 ∷ [])))) 3
position_element root tree positions.FirstPrimaryIgnorable =
    let above : List SymbolicWeight = Rooted 0 ∷ [] in
    let first = first_number (nonzero_weights (root.weights (0 ∷ []))) in
    element_with (above ++ first_ignored tree above first ∷ []) 2
position_element root tree positions.LastPrimaryIgnorable =
    element_with (last_from tree (Rooted 0 ∷ []) (last_number 0 (root.weights (0 ∷ [])))) 2
position_element root tree positions.FirstVariable =
    element_with (first_of_group root tree (first_number (root.weights []))) 1
position_element root tree positions.LastVariable = element_with (last_from tree [] root.last_variable) 1
position_element root tree positions.FirstRegular =
    let first : ℕ = elim (first_above (root.weights []) root.last_variable) [ Some w ↦ w | None ↦ 0 ] in
    element_with (first_of_group root tree first) 1
position_element root tree positions.LastRegular = element_with (last_from tree [] root.last_regular) 1
position_element root tree positions.FirstImplicit = element_with (first_of_primary tree (Rooted root.first_implicit)) 1
position_element root tree _ = ignorable
