use Rattle.std.proofs.Common.{◌≡◌}
use Rattle.icu_rule_meaning.specs.weight_tree.inner.TailoredSiblings.{first_of_tailored}
use Rattle.icu_rule_meaning.specs.weight_tree.inner.LinkedOrders.{next_in, walk, linked_weights}
use Rattle.icu_rule_meaning.proofs.weight_tree.linked.LinkedWeights.first_tailored.Given as goal

abbrev pub invariant-loop-left : goal.invariant-loop-left
invariant-loop-left l =
    first_of_tailored l.common (walk l.left (next_in l.self-inside.links.entries) l.at) ≡ first_of_tailored l.common (linked_weights l.self-inside.links.entries)

abbrev pub decreases-loop-left : goal.decreases-loop-left
decreases-loop-left l = l.left
