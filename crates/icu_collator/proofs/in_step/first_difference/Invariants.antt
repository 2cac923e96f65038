use Rattle.std.proofs.Common.{◌≡◌, ◌≤◌, length}
use Rattle.icu_collator.specs.declared.forward_levels.Level.{Level}
use Rattle.icu_collator.specs.inner.InStep.{order_on}
use Rattle.icu_collator.proofs.in_step.first_difference.Given as goal

-- where what is left is the same, all is; what is left orders as the whole
abbrev pub invariant-pairs : goal.invariant-pairs
invariant-pairs g l = record {
  same : g.L.HandledSource.handled_left l.left ≡ g.R.HandledSource.handled_left l.right
      → g.L.HandledSource.handled_left l.fn.left ≡ g.R.HandledSource.handled_left l.fn.right;
  order : (level : Level) → order_on level (g.L.HandledSource.handled_left l.fn.left) (g.R.HandledSource.handled_left l.fn.right)
      ≡ order_on level (g.L.HandledSource.handled_left l.left) (g.R.HandledSource.handled_left l.right);
  size : length (g.L.HandledSource.handled_left l.left) ≤ length (g.L.HandledSource.handled_left l.fn.left);
}

abbrev pub decreases-pairs : goal.decreases-pairs
decreases-pairs g l = length (g.L.HandledSource.handled_left l.left)
