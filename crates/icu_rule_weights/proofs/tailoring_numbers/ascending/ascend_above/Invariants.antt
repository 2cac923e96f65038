use Rattle.std.proofs.Common.{◌≡◌, drop}
use Rattle.icu_rule_meaning.specs.weight_tree.BuiltTrees.{parent_weights}
use Rattle.icu_rule_weights.specs.tailoring_numbers.inner.AscendingTests.{ascend_above}
use Rattle.icu_rule_weights.proofs.tailoring_numbers.ascending.ascend_above.Given as goal

-- what is left of the siblings decides
abbrev pub invariant-loop-w : goal.invariant-loop-w
invariant-loop-w g l =
    let root = g.R.RootWeights.root l.root in
    ascend_above root (parent_weights l.parents) l.numbers l.before l.limit (drop l.w-index l.siblings)
    ≡ ascend_above root (parent_weights l.parents) l.numbers l.last l.fn.next l.siblings
