-- Elements that tie on two levels step by the third.
use Rattle.std.proofs.Common.{◌≡◌, subst, rules}
use Rattle.icu_order_texts.specs.declared.weighting.handled_element.Handled.TheVariants.{Stayed}
use Rattle.icu_collator.specs.declared.forward_levels.Level.TheVariants.{Primary}
use Rattle.icu_collator.specs.inner.InStep.{StepsBy, three_levels}
use Rattle.icu_table_entries.specs.Elements.{Element}
use Rattle.std.proofs.Common.{Equal}
use Rattle.icu_collator.proofs.FactsInStepLemmas.{same_steps, alike_steps}
use Rattle.icu_collator.proofs.facts_in_step.order_of_elements.Goals as goal

pub returns-then-eq : goal.returns-then-eq
returns-then-eq c = λ reordering.
    let same : c.args.one ≡ c.args.other = search rules in
    subst (λ (x : Element). StepsBy (three_levels (Primary reordering) c.args.form) (Stayed c.args.one) (Stayed x) Equal) same (same_steps (three_levels (Primary reordering) c.args.form) (Stayed c.args.one))

pub returns : goal.returns
returns c = λ reordering.
    alike_steps reordering c.args.form c.args.one c.args.other c.order_of_weights.result (search rules) (search rules) c.order_of_weights.ensures
