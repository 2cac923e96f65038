-- Both give an element, and those are in step, or both have ended.
use Rattle.std.proofs.Common.{Ordering, sym, subst}
use Rattle.std.specs.Ordering.{ordering_then}
use Rattle.icu_collator.proofs.FactsInStepLemmas.{steps_on, steps_end}
use Rattle.icu_collator.proofs.BackwardInStepLemmas.{LeavesBackward, nothing_stepped, stepped, all_stepped}
use Rattle.icu_collator.proofs.backward_in_step.order_backward.Goals as goal

pub pairs-init : goal.pairs-init
pairs-init g c = nothing_stepped g.L.EncodedText.text g.R.EncodedText.text c.args.form c.args.left.now c.args.right.now

pub returns-in-None-None : goal.returns-in-None-None
returns-in-None-None g c =
    all_stepped g.L.EncodedText.text g.R.EncodedText.text c.args.form c.args.left.now c.args.right.now
    c.pairs.left c.next_or_end.new.self c.pairs.right c.next_or_end-in-pairs.new.self c.pairs.second c.pairs.third c.pairs.invariant
    (steps_end g.L.EncodedText.text c.pairs.left c.next_or_end.new.self (rw c.in-None-None.is-0 at c.in_ok-one.ensures))
    (steps_end g.R.EncodedText.text c.pairs.right c.next_or_end-in-pairs.new.self (rw c.in-None-None.is-1 at c.in_ok-other.ensures))
    c.then.result c.then.ensures

pub pairs-preserved : goal.pairs-preserved
pairs-preserved g c =
    let left = g.L.EncodedText.text in
    let right = g.R.EncodedText.text in
    subst (λ (t : Ordering). LeavesBackward left right c.args.form c.args.left.now c.args.right.now c.then-second.result t c.next_or_end.new.self c.next_or_end-in-pairs.new.self) (sym c.then-third.ensures)
    (subst (λ (s : Ordering). LeavesBackward left right c.args.form c.args.left.now c.args.right.now s (ordering_then c.pairs.third c.in_ok-orders-in-Some-Some.orders.1) c.next_or_end.new.self c.next_or_end-in-pairs.new.self) (sym c.then-second.ensures)
    (stepped left right c.args.form c.args.left.now c.args.right.now c.pairs.left c.next_or_end.new.self c.pairs.right c.next_or_end-in-pairs.new.self
    c.pairs.second c.pairs.third c.pairs.invariant c.in-Some-Some.one c.in-Some-Some.other c.in_ok-orders-in-Some-Some.orders.0 c.in_ok-orders-in-Some-Some.orders.1
    (steps_on left c.pairs.left c.next_or_end.new.self c.in-Some-Some.one (rw c.in-Some-Some.is-0 at c.in_ok-one.ensures))
    (steps_on right c.pairs.right c.next_or_end-in-pairs.new.self c.in-Some-Some.other (rw c.in-Some-Some.is-1 at c.in_ok-other.ensures))
    c.in_ok-orders-in-Some-Some.ensures))
