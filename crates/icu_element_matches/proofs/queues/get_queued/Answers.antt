use Rattle.std.proofs.Common.{◌≡◌, ◌<◌, ◌≤◌, ◌+◌, ◌-◌, ℕ, List, None, Some, length, rules, arith}
use Rattle.std.specs.Prelude.{slice_get}
use Rattle.icu_element_matches.specs.declared.mark_queue.MarkQueue.{MarkQueue}
use Rattle.icu_element_matches.proofs.MarkQueueLemmas.{count_behind, found_behind, found_here}
use Rattle.icu_element_matches.proofs.queues.get_queued.Goals as goal

pub returns-in-Some : goal.returns-in-Some
returns-in-Some c =
    let l = c.loop-queue in
    let qs : List MarkQueue = c.args.queues.now in
    let q : MarkQueue = c.queue-item.result in
    let at : slice_get q.marks.items l.behind ≡ Some c.in-Some.mark = search rules in
    let inside : l.queue-index < length qs = search rules in
    found_here qs l.queue-index q inside c.queue-item.is c.args.index l.behind c.in-Some.mark l.invariant.finds at

pub loop-queue-preserved : goal.loop-queue-preserved
loop-queue-preserved c =
    let l = c.loop-queue in
    let qs : List MarkQueue = c.args.queues.now in
    let q : MarkQueue = c.queue-item.result in
    let inside : l.queue-index < length qs = search rules in
    let past : length q.marks.items ≤ l.behind = search rules in
    let len : c.len-behind.result ≡ length q.marks.items = search rules in
    let left : ℕ = l.behind - c.len-behind.result in
    let split : l.behind ≡ length q.marks.items + left = omega (arith, past, len) in
    record {
      count = count_behind qs l.queue-index q inside c.queue-item.is _ c.args.index l.behind left l.invariant.count split;
      finds = found_behind qs l.queue-index q inside c.queue-item.is c.args.index l.behind left l.invariant.finds split;
    }
