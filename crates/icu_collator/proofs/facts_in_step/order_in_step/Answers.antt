-- Both go on in step, or out of it.
use Rattle.std.proofs.Common.{Ordering, sym, ◌∙◌, subst, rules}
use Rattle.icu_collator.specs.declared.forward_levels.Level.TheVariants.{Primary}
use Rattle.icu_collator.specs.inner.InStep.{three_levels}
use Rattle.icu_collator.proofs.FactsInStepLemmas.{leaves_passed, LeavesOrder, nothing_compared, both_step, both_ended, step_apart}
use Rattle.icu_collator.proofs.facts_in_step.order_in_step.Goals as goal

pub pairs-init : goal.pairs-init
pairs-init g c = record {
  leaves = nothing_compared g.L.EncodedText.text g.R.EncodedText.text (three_levels (Primary c.args.reordering) c.args.form) c.args.left.now c.args.right.now;
  reading = c.requires;
}

pub returns-then-is_none-2 : goal.returns-then-is_none-2
returns-then-is_none-2 g c =
    both_ended g.L.EncodedText.text g.R.EncodedText.text (three_levels (Primary c.args.reordering) c.args.form) c.args.left.now c.pairs.left c.next_stayed.new.text
    c.args.right.now c.pairs.right c.next_stayed-in-pairs.new.text c.pairs.third c.in_ok-one.one c.in_ok-other.other
    c.pairs.invariant.leaves c.in_ok-one.ensures.next c.in_ok-other.ensures.next (search rules) (search rules)

pub pass_common-worth-requires : goal.pass_common-worth-requires
pass_common-worth-requires g c = c.in_ok-one.ensures.reading ∙ c.pairs.invariant.reading ∙ sym c.in_ok-other.ensures.reading

pub order_apart-requires : goal.order_apart-requires
order_apart-requires g c = c.in_ok-one.ensures.reading ∙ c.pairs.invariant.reading ∙ sym c.in_ok-other.ensures.reading

pub pairs-preserved : goal.pairs-preserved
pairs-preserved g c =
    let left = g.L.EncodedText.text in
    let right = g.R.EncodedText.text in
    let levels = three_levels (Primary c.args.reordering) c.args.form in
    let one = c.next_stayed.new.text in
    let other = c.next_stayed-in-pairs.new.text in
    let stepped : LeavesOrder left right levels c.args.left.now c.args.right.now c.then-third.result one other =
    subst (λ (o : Ordering). LeavesOrder left right levels c.args.left.now c.args.right.now o one other) (sym c.then-third.ensures)
    (both_step left right levels c.args.left.now c.pairs.left one c.args.right.now c.pairs.right other c.pairs.third
    c.in_ok-one.one c.in_ok-other.other c.pairs.invariant.leaves c.in_ok-one.ensures.next c.in_ok-other.ensures.next c.in-Some.order (rw c.in-Some.is at c.order_of_step.ensures c.args.reordering)) in
    record {
      leaves = leaves_passed left right one other c.pass_common-worth.new.left c.pass_common-worth.new.right c.pass_common-worth.ensures.passes
          levels c.args.left.now c.args.right.now c.then-third.result stepped;
      reading = c.pass_common-worth.ensures.reading;
    }

pub returns-in-None : goal.returns-in-None
returns-in-None g c =
    step_apart g.L.EncodedText.text g.R.EncodedText.text (three_levels (Primary c.args.reordering) c.args.form) c.args.left.now c.pairs.left c.next_stayed.new.text
    c.args.right.now c.pairs.right c.next_stayed-in-pairs.new.text c.pairs.third c.in_ok-one.one c.in_ok-other.other
    c.pairs.invariant.leaves c.in_ok-one.ensures.next c.in_ok-other.ensures.next c.order_apart.result c.order_apart.ensures
