use Rattle.std.proofs.Common.{◌≡◌, ◌-◌, length, drop}
use Rattle.icu_element_matches.specs.inner.MarkQueues.{queued_marks}
use Rattle.icu_element_matches.proofs.queues.skip_queued.Given as goal

-- of those that are left as many stand behind the queues that are left
abbrev pub invariant-loop-queue : goal.invariant-loop-queue
invariant-loop-queue l = l.behind - length (queued_marks (drop l.queue-index l.queues)) ≡ l.fn.count - length (queued_marks l.queues)
