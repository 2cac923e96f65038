use Rattle.std.proofs.Common.{◌≡◌, ◌≤◌, length}
use Rattle.icu_collator.specs.HandledRests.{handled_rest}
use Rattle.icu_collator.proofs.handled.HandledElements.next.Given as goal

abbrev pub invariant-passing : goal.invariant-passing
invariant-passing l = record {
  same : handled_rest l.fn.self ≡ handled_rest l.self;
  size : length l.self.rest.now ≤ length l.fn.self.rest.now;
}

abbrev pub decreases-passing : goal.decreases-passing
decreases-passing l = length l.self.rest.now
