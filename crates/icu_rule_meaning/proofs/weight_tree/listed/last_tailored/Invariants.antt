use Rattle.std.proofs.Common.{◌≡◌, take_while, drop}
use Rattle.icu_rule_meaning.specs.SymbolicElements.{has_tailored_weight}
use Rattle.icu_rule_meaning.specs.RootPositions.{last_weight}
use Rattle.icu_rule_meaning.proofs.weight_tree.listed.last_tailored.Given as goal

abbrev pub invariant-loop-w : goal.invariant-loop-w
invariant-loop-w l =
    last_weight l.last (take_while has_tailored_weight (drop l.w-index l.weights)) ≡ last_weight l.fn.found (take_while has_tailored_weight l.weights)
