use Rattle.std.proofs.Common.{◌≡◌, length}
use Rattle.icu_order_levels.specs.ListOrder.{list_order}
use Rattle.icu_collator.specs.inner.LevelWeights.{level_weights}
use Rattle.icu_collator.proofs.forward_levels.Level.compare.Given as goal

-- what is left orders as the whole
abbrev pub invariant-pairs : goal.invariant-pairs
invariant-pairs g l =
    list_order (level_weights l.self (g.L.HandledSource.handled_left l.left)) (level_weights l.self (g.R.HandledSource.handled_left l.right))
    ≡ list_order (level_weights l.self (g.L.HandledSource.handled_left l.fn.left)) (level_weights l.self (g.R.HandledSource.handled_left l.fn.right))

abbrev pub decreases-pairs : goal.decreases-pairs
decreases-pairs g l = length (g.L.HandledSource.handled_left l.left)
