use Rattle.std.proofs.Common.{◌≡◌, ◌<◌, ◌≤◌, ◌++◌, ◌+◌, [], ℕ, List, length, take, drop, refl, sym, ap, ap₂, ◌∙◌, append_assoc, rules, arith}
use Rattle.std.proofs.lemmas.List.{drop_all, take_all}
use Rattle.icu_table_data.specs.Data.{Mapping}
use Rattle.icu_table_data.specs.StoredData.{found_context}
use Rattle.icu_element_matches.specs.declared.mark_queue.MarkQueue.{MarkQueue}
use Rattle.icu_element_matches.specs.inner.Joining.{greatest_class, match_behind}
use Rattle.icu_element_matches.specs.inner.MarkQueues.{queued_marks}
use Rattle.icu_element_matches.proofs.MarkQueueLemmas.{before_next, behind_next, queued_from, set_fewer, set_len}
use Rattle.icu_element_matches.proofs.marks.pass_queues.Goals as goal

pub loop-index-init : goal.loop-index-init
unfolding greatest_class
loop-index-init c = record { marks = λ left. refl; greatest = refl; fewer = omega arith; count = refl }

pub loop-index-preserved : goal.loop-index-preserved
loop-index-preserved c =
    let mappings : List Mapping = (found_context c.args.context).mappings in
    let l = c.loop-index in
    let qs : List MarkQueue = l.queues.items in
    let i : ℕ = l.index in
    let q : MarkQueue = c.index_mut.result.now in
    let new : MarkQueue = c.pass_queue.new.queue in
    let inside : i < length qs = omega (arith, l.invariant.count) in
    let is = c.index_mut.ensures.value in
    let front : List ℕ = queued_marks (take i qs) in
    let rest : List ℕ = queued_marks (drop (i + 1) qs) in
    let met = c.pass_queue.new.matched in
    let before = before_next qs i q inside is new in
    let behind = behind_next qs i q inside is new in
    record {
      marks = λ left.
          ap₂ (λ (p t : List ℕ). match_behind mappings met p (t ++ left)) before behind
          ∙ c.in_ok-greatest.ensures.marks front (rest ++ left) l.invariant.greatest
          ∙ ap (λ (t : List ℕ). match_behind mappings l.matched front t) (sym (ap (λ (t : List ℕ). t ++ left) (queued_from qs i q inside is) ∙ append_assoc q.marks.items rest left))
          ∙ l.invariant.marks left;
      greatest = ap greatest_class before ∙ c.in_ok-greatest.ensures.greatest front l.invariant.greatest;
      fewer = omega (arith, l.invariant.fewer, set_fewer qs i q new 0 inside is (omega (arith, c.pass_queue.ensures.fewer)));
      count = set_len qs i q inside is new ∙ l.invariant.count;
    }

pub returns-clause-marks : goal.returns-clause-marks
returns-clause-marks c = λ left.
    let mappings : List Mapping = (found_context c.args.context).mappings in
    let l = c.loop-index in
    let qs : List MarkQueue = l.queues.items in
    let n : ℕ = l.index in
    let all : length qs ≤ n = omega (arith, l.invariant.count) in
    ap (λ (p : List ℕ). match_behind mappings l.matched p left) (ap queued_marks (sym (take_all n qs all)))
    ∙ ap (λ (t : List ℕ). match_behind mappings l.matched (queued_marks (take n qs)) (t ++ left)) (sym (ap queued_marks (drop_all n qs all)))
    ∙ l.invariant.marks left

pub returns-in_err-greatest-clause-fewer : goal.returns-in_err-greatest-clause-fewer
returns-in_err-greatest-clause-fewer c =
    let l = c.loop-index in
    let qs : List MarkQueue = l.queues.items in
    let inside : l.index < length qs = omega (arith, l.invariant.count) in
    omega (arith, l.invariant.fewer, set_fewer qs l.index c.index_mut.result.now c.pass_queue.new.queue 0 inside c.index_mut.ensures.value (omega (arith, c.pass_queue.ensures.fewer)))
