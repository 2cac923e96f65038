use Rattle.std.proofs.Common.{◌≡◌, drop}
use Rattle.icu_rule_meaning.specs.weight_tree.inner.TailoredSiblings.{first_of_tailored}
use Rattle.icu_rule_meaning.proofs.weight_tree.listed.first_tailored.Given as goal

abbrev pub invariant-loop-w : goal.invariant-loop-w
invariant-loop-w l = first_of_tailored l.common (drop l.w-index l.weights) ≡ first_of_tailored l.common l.weights
