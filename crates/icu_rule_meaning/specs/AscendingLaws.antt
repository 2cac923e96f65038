-- Weights of the root keep their order.
use Rattle.std.specs.Prelude.{ℕ, ◌<◌, List}
use Rattle.icu_rule_meaning.specs.Rules.{Rule}
use Rattle.icu_rule_meaning.specs.declared.symbolic.SymbolicWeight.{SymbolicWeight}
use Rattle.icu_rule_meaning.specs.declared.symbolic.SymbolicWeight.TheVariants.{Rooted}
use Rattle.icu_rule_meaning.specs.TailoredRoots.{Root}
use Rattle.icu_rule_meaning.specs.Steps.{tailoring_of}
use Rattle.icu_rule_meaning.specs.SymbolicOrders.{IsOrderedBefore}

-- among siblings the weights of the root ascend, whatever the rules are
abbrev pub WeightsOfTheRootAscend : Type 0
WeightsOfTheRootAscend = (root : Root) (rules : List Rule) (above : List SymbolicWeight) (v w : ℕ)
    → IsOrderedBefore (Rooted v) (Rooted w) ((tailoring_of root rules).tree above) → v < w
