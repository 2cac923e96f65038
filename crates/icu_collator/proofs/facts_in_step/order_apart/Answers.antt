-- The elements decide, or what follows them.
use Rattle.icu_collator.specs.declared.forward_levels.Level.TheVariants.{Primary}
use Rattle.icu_collator.specs.inner.InStep.{three_levels}
use Rattle.icu_collator.specs.inner.FactsInStep.{plain_left}
use Rattle.icu_collator.proofs.FactsInStepLemmas.{decided_on_first}
use Rattle.icu_collator.proofs.facts_in_step.order_apart.Goals as goal

pub returns-then-is_some : goal.returns-then-is_some
returns-then-is_some g c = λ b d third.
    decided_on_first (three_levels (Primary c.args.reordering) c.args.form) third (plain_left g.L.EncodedText.text c.args.left.now b) (plain_left g.R.EncodedText.text c.args.right.now d)
    c.args.pair.0 c.args.pair.1 c.decide-decided.result c.decide-decided.ensures
