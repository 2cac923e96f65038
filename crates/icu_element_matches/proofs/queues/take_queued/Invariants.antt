use Rattle.std.proofs.Common.{◌≡◌, [], length, take}
use Rattle.icu_element_matches.specs.inner.MarkQueues.{queued_marks}
use Rattle.icu_element_matches.proofs.queues.take_queued.Given as goal

-- the queues so far are empty
abbrev pub invariant-loop-index : goal.invariant-loop-index
invariant-loop-index l = record {
  marks : queued_marks l.queues.items ≡ queued_marks l.fn.queues.items;
  none : queued_marks (take l.index l.queues.items) ≡ [];
  count : length l.queues.items ≡ length l.fn.queues.items;
}
