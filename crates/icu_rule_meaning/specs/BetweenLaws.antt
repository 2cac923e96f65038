-- Nothing of the root stands between the two sides of a relation.
use Rattle.std.specs.Prelude.{ℕ, ◌≡◌, ◌<◌, List, [], ◌∷◌, ◌++◌}
use Rattle.icu_options.specs.declared.settings.Strength.{Strength}
use Rattle.icu_options.specs.declared.settings.Strength.TheVariants.{Identical}
use Rattle.icu_rule_meaning.specs.Rules.{Rule, relation, level_of}
use Rattle.icu_rule_meaning.specs.declared.symbolic.SymbolicWeight.{SymbolicWeight}
use Rattle.icu_rule_meaning.specs.declared.symbolic.SymbolicWeight.TheVariants.{Rooted, Tailored}
use Rattle.icu_rule_meaning.specs.WeightTrees.{above_level, weight_at_level, with_weight}
use Rattle.icu_rule_meaning.specs.TailoredRoots.{Root}
use Rattle.icu_rule_meaning.specs.RelationLaws.{weights_before}
use Rattle.icu_rule_meaning.specs.Steps.{tailoring_of}
use Rattle.icu_rule_meaning.specs.SymbolicOrders.{Numbering, NumbersTree}

-- the number of a weight at a level, below the weights of the levels before
abbrev pub number_below : Numbering → ℕ → List SymbolicWeight → SymbolicWeight → ℕ
number_below numbering level weights w = numbering (above_level level weights ++ w ∷ [])

-- the number of a weight of the root doesn't lie between that of the weight of a level and that of a new one
abbrev pub IsNotBetween : Numbering → ℕ → List SymbolicWeight → SymbolicWeight → ℕ → Type 0
IsNotBetween numbering level weights new w =
    let number = number_below numbering level weights in
    number (weight_at_level level weights) < number (Rooted w) → number (Rooted w) < number new → ⊥

-- No weight of the root lies between the weight that a relation makes and the one that it differs from, whatever rules
-- follow, and whatever numbers they and that weight of the root get in their order.
abbrev pub NothingOfTheRootIsBetween : Type 0
NothingOfTheRootIsBetween = (root : Root) (earlier later : List Rule) (strength : Strength)
    (prefix string extension : List ℕ) (w : ℕ) (numbering : Numbering)
    → (strength ≡ Identical → ⊥)
    → let level = level_of strength in
    let weights = weights_before root earlier level in
    let last = tailoring_of root (earlier ++ relation strength prefix string extension ∷ later) in
    NumbersTree (with_weight last.tree (above_level level weights) (Rooted w)) numbering
    → IsNotBetween numbering level weights (Tailored (tailoring_of root earlier).made) w
