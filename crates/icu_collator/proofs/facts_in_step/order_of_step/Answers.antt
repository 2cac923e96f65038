-- Both gave an element.
use Rattle.icu_collator.specs.declared.forward_levels.Level.TheVariants.{Primary}
use Rattle.icu_collator.specs.inner.InStep.{three_levels}
use Rattle.icu_collator.proofs.FactsInStepLemmas.{both_given}
use Rattle.icu_collator.proofs.facts_in_step.order_of_step.Goals as goal

pub returns-in-Some-Some : goal.returns-in-Some-Some
returns-in-Some-Some c = λ reordering.
    let both = c.in-Some-Some in
    both_given (three_levels (Primary reordering) c.args.form) c.args.one.now c.args.other.now both.one both.other c.order_of_both.result
    both.is-0 both.is-1 (c.order_of_both.ensures reordering)
