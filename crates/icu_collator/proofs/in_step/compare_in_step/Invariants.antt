use Rattle.std.proofs.Common.{◌≡◌, length, Equal}
use Rattle.icu_collator.specs.inner.InStep.{order_on, three_order, three_levels}
use Rattle.icu_collator.proofs.in_step.compare_in_step.Given as goal

-- what is left orders as the whole
abbrev pub invariant-pairs : goal.invariant-pairs
invariant-pairs g l = record {
  first : order_on l.first (g.L.HandledSource.handled_left l.fn.left) (g.R.HandledSource.handled_left l.fn.right)
      ≡ order_on l.first (g.L.HandledSource.handled_left l.left) (g.R.HandledSource.handled_left l.right);
  order : three_order (three_levels l.first l.form) Equal (g.L.HandledSource.handled_left l.fn.left) (g.R.HandledSource.handled_left l.fn.right)
      ≡ three_order (three_levels l.first l.form) l.third (g.L.HandledSource.handled_left l.left) (g.R.HandledSource.handled_left l.right);
}

abbrev pub decreases-pairs : goal.decreases-pairs
decreases-pairs g l = length (g.L.HandledSource.handled_left l.left)
