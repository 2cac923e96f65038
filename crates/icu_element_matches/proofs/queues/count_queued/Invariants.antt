use Rattle.std.proofs.Common.{◌≡◌, ◌+◌, length, drop}
use Rattle.icu_element_matches.specs.inner.MarkQueues.{queued_marks}
use Rattle.icu_element_matches.proofs.queues.count_queued.Given as goal

-- those so far and those that are left are all
abbrev pub invariant-loop-queue : goal.invariant-loop-queue
invariant-loop-queue l = l.count + length (queued_marks (drop l.queue-index l.queues)) ≡ length (queued_marks l.queues)
