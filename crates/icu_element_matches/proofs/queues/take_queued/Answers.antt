use Rattle.std.proofs.Common.{◌≡◌, ◌<◌, ◌++◌, [], ℕ, List, Option, None, Some, length, set, sym, ap, ◌∙◌, rules, arith}
use Rattle.std.specs.Prelude.{option_to_list}
use Rattle.icu_element_matches.specs.declared.mark_queue.MarkQueue.{MarkQueue}
use Rattle.icu_element_matches.specs.inner.MarkQueues.{queued_marks}
use Rattle.icu_element_matches.proofs.MarkQueueLemmas.{before_next, set_len, taken_marks}
use Rattle.icu_element_matches.proofs.queues.take_queued.Goals as goal

pub returns-in-Some-clause-marks : goal.returns-in-Some-clause-marks
returns-in-Some-clause-marks c =
    let l = c.loop-index in
    let qs : List MarkQueue = l.queues.items in
    let q : MarkQueue = c.index_mut.result.now in
    let inside : l.index < length qs = omega (arith, l.invariant.count) in
    sym l.invariant.marks ∙ taken_marks qs l.index q inside c.index_mut.ensures.value c.take_first.new.self (Some c.in-Some.mark) c.in-Some.ensures.marks l.invariant.none

pub loop-index-preserved : goal.loop-index-preserved
loop-index-preserved c =
    let l = c.loop-index in
    let qs : List MarkQueue = l.queues.items in
    let i : ℕ = l.index in
    let q : MarkQueue = c.index_mut.result.now in
    let new : MarkQueue = c.take_first.new.self in
    let inside : i < length qs = omega (arith, l.invariant.count) in
    let is = c.index_mut.ensures.value in
    let none : c.take_first.result ≡ None = search rules in
    let same : q.marks.items ≡ new.marks.items = c.take_first.ensures.marks ∙ ap (λ (o : Option ℕ). option_to_list o ++ new.marks.items) none in
    record {
      marks = sym (taken_marks qs i q inside is new None same l.invariant.none) ∙ l.invariant.marks;
      none = before_next qs i q inside is new ∙ ap (λ (l : List ℕ). l ++ new.marks.items) l.invariant.none ∙ sym same ∙ c.take_first.ensures.end none;
      count = set_len qs i q inside is new ∙ l.invariant.count;
    }
