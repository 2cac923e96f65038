-- The order of weights while rules are read (UTS #35 part 5, "Collation Tailorings"): below the weights of the levels
-- before stand weights of the next level, ascending, those of the root that were asked for and the tailored ones.
use Rattle.std.specs.Prelude.{ℕ, ◌==◌, ◌-◌, nat_lt, if◌then◌else◌, List, [], ◌∷◌, ◌++◌, Option, Some, None, take, slice_index_or}
use Rattle.icu_rule_meaning.specs.declared.symbolic.SymbolicWeight.{SymbolicWeight}
use Rattle.icu_rule_meaning.specs.declared.symbolic.SymbolicWeight.TheVariants.{Rooted, Tailored}
use Rattle.icu_rule_meaning.specs.SymbolicElements.{is_same_weight, are_same_weights, common_below}

-- the weights below those of the levels before, ascending
abbrev pub WeightTree : Type 0
WeightTree = List SymbolicWeight → List SymbolicWeight

-- at first the common weight alone stands below each
abbrev pub first_tree : WeightTree
first_tree [] = []
first_tree (w ∷ ws) = common_below (w ∷ ws) ∷ []

-- a tree with other weights below these
abbrev pub with_siblings : WeightTree → List SymbolicWeight → List SymbolicWeight → WeightTree
with_siblings tree above siblings = λ other. if are_same_weights other above then siblings else tree other

-- siblings with a weight of the root in its place: before the first greater one of the root, behind what was tailored
-- after lesser ones
unfoldable pub with_rooted : ℕ → List SymbolicWeight → List SymbolicWeight
with_rooted w [] = Rooted w ∷ []
with_rooted w (Tailored k ∷ siblings) = Tailored k ∷ with_rooted w siblings
with_rooted w (Rooted v ∷ siblings) =
    if w == v then Rooted v ∷ siblings
    else if nat_lt w v then Rooted w ∷ Rooted v ∷ siblings
    else Rooted v ∷ with_rooted w siblings

-- siblings with a new weight directly behind one of them, or both at the end where that one isn't among them
unfoldable pub with_behind : SymbolicWeight → SymbolicWeight → List SymbolicWeight → List SymbolicWeight
with_behind w new [] = w ∷ new ∷ []
with_behind w new (v ∷ siblings) =
    if is_same_weight v w then v ∷ new ∷ siblings else v ∷ with_behind w new siblings

-- what stands behind a weight
unfoldable pub put_behind : SymbolicWeight → List SymbolicWeight → List SymbolicWeight
put_behind w [] = []
put_behind w (v ∷ siblings) = if is_same_weight v w then siblings else put_behind w siblings

-- the weight directly before one of the siblings; the first weight stands before the siblings
unfoldable pub before_from : Option SymbolicWeight → SymbolicWeight → List SymbolicWeight → Option SymbolicWeight
before_from last w [] = None
before_from last w (v ∷ siblings) = if is_same_weight v w then last else before_from (Some v) w siblings

-- the weight directly before one of the siblings
abbrev pub directly_before : SymbolicWeight → List SymbolicWeight → Option SymbolicWeight
directly_before = before_from None

-- the weights of the levels before a level
abbrev pub above_level : ℕ → List SymbolicWeight → List SymbolicWeight
above_level level weights = take (level - 1) weights

-- the weight of a level
abbrev pub weight_at_level : ℕ → List SymbolicWeight → SymbolicWeight
weight_at_level level weights = slice_index_or weights (level - 1) (Rooted 0)

-- a tree with a weight of the root in its place below others
abbrev pub with_weight : WeightTree → List SymbolicWeight → SymbolicWeight → WeightTree
with_weight tree above (Rooted w) = with_siblings tree above (with_rooted w (tree above))
with_weight tree above (Tailored k) = tree

-- a tree with weights of levels one below another in their places, where they are of the root
unfoldable pub with_weights : WeightTree → List SymbolicWeight → List SymbolicWeight → WeightTree
with_weights tree above [] = tree
with_weights tree above (w ∷ ws) = with_weights (with_weight tree above w) (above ++ w ∷ []) ws

-- a tree with a new weight of a level directly behind the one that an element has there
abbrev pub with_new_weight : WeightTree → ℕ → List SymbolicWeight → SymbolicWeight → WeightTree
with_new_weight tree level weights new =
    let above = above_level level weights in
    let placed = with_weights tree [] (take level weights) in
    with_siblings placed above (with_behind (weight_at_level level weights) new (placed above))
