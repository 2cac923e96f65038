use Rattle.std.proofs.Common.{◌≡◌, ◌<◌, ◌≤◌, ◌+◌, ◌-◌, ◌∷◌, ◌++◌, [], ℕ, List, length, length-append, ap, ◌∙◌, rules, arith}
use Rattle.std.proofs.lemmas.Result.{on_ok_weaker}
use Rattle.icu_element_matches.specs.declared.mark_queue.MarkQueue.{MarkQueue}
use Rattle.icu_element_matches.specs.inner.MarkQueues.{queued_marks}
use Rattle.icu_element_matches.proofs.MarkQueueLemmas.{pushed_last, pushed_new, set_fewer}
use Rattle.icu_element_matches.proofs.queues.push_mark.Goals as goal

pub returns-then-index-class-clause-marks : goal.returns-then-index-class-clause-marks
returns-then-index-class-clause-marks c =
    let qs : List MarkQueue = c.args.queues.now.items in
    let i : ℕ = c.len-count.result - 1 in
    let q : MarkQueue = c.index_mut.result.now in
    let new : MarkQueue = c.push.new.self in
    let m : ℕ = c.args.mark in
    let inside : i < length qs = search rules in
    let past : length qs ≤ i + 1 = search rules in
    on_ok_weaker c.push.result
    (λ (h : new.marks.items ≡ q.marks.items ++ m ∷ []). pushed_last qs i q new m inside past c.index_mut.ensures.value h)
    c.push.ensures.marks

pub returns-then-index-class-clause-more : goal.returns-then-index-class-clause-more
returns-then-index-class-clause-more c =
    let qs : List MarkQueue = c.args.queues.now.items in
    let i : ℕ = c.len-count.result - 1 in
    let inside : i < length qs = search rules in
    set_fewer qs i c.index_mut.result.now c.push.new.self 1 inside c.index_mut.ensures.value c.push.ensures.more

pub returns-clause-marks : goal.returns-clause-marks
returns-clause-marks c =
    let qs : List MarkQueue = c.args.queues.now.items in
    let q : MarkQueue = c.in_ok-queue.queue in
    let pushed : c.push-2.new.self.items ≡ qs ++ q ∷ [] = search rules in
    ap queued_marks pushed ∙ pushed_new qs q c.args.mark c.in_ok-queue.ensures.marks

pub returns-clause-more : goal.returns-clause-more
returns-clause-more c =
    let qs : List MarkQueue = c.args.queues.now.items in
    let q : MarkQueue = c.in_ok-queue.queue in
    let m : ℕ = c.args.mark in
    let pushed : c.push-2.new.self.items ≡ qs ++ q ∷ [] = search rules in
    let all = ap queued_marks pushed ∙ pushed_new qs q m c.in_ok-queue.ensures.marks in
    omega (arith, ap length all, length-append (queued_marks qs) (m ∷ []))
