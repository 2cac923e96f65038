-- An element with a weight gives it, and else the next one does.
use Rattle.std.proofs.Common.{sym, ◌∙◌}
use Rattle.icu_collator.proofs.FactsInStepLemmas.{first_weighs, nothing_first, passed_first}
use Rattle.icu_collator.proofs.facts_in_step.next_weight_from.Goals as goal

pub returns-in-Some-weight-clause-next : goal.returns-in-Some-weight-clause-next
returns-in-Some-weight-clause-next g c =
    first_weighs c.args.level g.T.EncodedText.text c.args.text.now c.args.first c.in-Some.handled c.in-Some-weight.weight c.in-Some.is (sym c.weight.ensures ∙ c.in-Some-weight.is)

pub returns-in-None-clause-next : goal.returns-in-None-clause-next
returns-in-None-clause-next g c =
    passed_first c.args.level g.T.EncodedText.text c.args.text.now c.next_weight.new.text c.args.first c.in-Some.handled c.next_weight.result
    c.in-Some.is (sym c.weight.ensures ∙ c.in-None.is) c.next_weight.ensures.next

pub returns-in_default-clause-next : goal.returns-in_default-clause-next
returns-in_default-clause-next g c = nothing_first c.args.level g.T.EncodedText.text c.args.text.now c.args.first c.in_default.is
