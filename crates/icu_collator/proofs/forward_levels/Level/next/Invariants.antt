use Rattle.std.proofs.Common.{◌≡◌, ◌≤◌, length}
use Rattle.icu_collator.specs.inner.LevelWeights.{level_weights}
use Rattle.icu_collator.proofs.forward_levels.Level.next.Given as goal

abbrev pub invariant-passing : goal.invariant-passing
invariant-passing g l = record {
  same : level_weights l.fn.self (g.S.HandledSource.handled_left l.fn.elements) ≡ level_weights l.self (g.S.HandledSource.handled_left l.elements);
  level : l.self ≡ l.fn.self;
  size : length (g.S.HandledSource.handled_left l.elements) ≤ length (g.S.HandledSource.handled_left l.fn.elements);
}

abbrev pub decreases-passing : goal.decreases-passing
decreases-passing g l = length (g.S.HandledSource.handled_left l.elements)
