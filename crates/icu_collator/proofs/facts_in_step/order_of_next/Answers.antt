-- The first weights decide, or what follows them.
use Rattle.icu_collator.proofs.FactsInStepLemmas.{same_next}
use Rattle.icu_collator.proofs.facts_in_step.order_of_next.Goals as goal

pub returns-then-weight-other_weight : goal.returns-then-weight-other_weight
returns-then-weight-other_weight c =
    let w = c.in-Some-Some in record {
      some = λ ws vs. tt;
      none = λ _ ws vs. same_next c.args.one c.args.other w.weight w.other_weight ws vs w.is-0 w.is-1 c.if-weight-other_weight.true;
    }
