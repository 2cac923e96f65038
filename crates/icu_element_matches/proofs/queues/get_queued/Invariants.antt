use Rattle.std.proofs.Common.{◌≡◌, ◌+◌, length, drop}
use Rattle.std.specs.Prelude.{slice_get}
use Rattle.icu_element_matches.specs.inner.MarkQueues.{queued_marks}
use Rattle.icu_element_matches.proofs.queues.get_queued.Given as goal

-- the character is among those of the queues that are left
abbrev pub invariant-loop-queue : goal.invariant-loop-queue
invariant-loop-queue l = record {
  count : length (queued_marks l.queues) + l.behind ≡ l.index + length (queued_marks (drop l.queue-index l.queues));
  finds : slice_get (queued_marks l.queues) l.index ≡ slice_get (queued_marks (drop l.queue-index l.queues)) l.behind;
}
