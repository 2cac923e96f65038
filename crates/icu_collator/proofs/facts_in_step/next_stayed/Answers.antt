use Rattle.icu_collator.proofs.FactsInStepLemmas.{steps_on, steps_end}
use Rattle.icu_collator.proofs.facts_in_step.next_stayed.Goals as goal

pub returns-in-Some-clause-next : goal.returns-in-Some-clause-next
returns-in-Some-clause-next g c = steps_on g.T.EncodedText.text c.args.text.now c.next_or_end.new.self c.in-Some.element (rw c.in-Some.is at c.in_ok-element.ensures)

pub returns-in-None-clause-next : goal.returns-in-None-clause-next
returns-in-None-clause-next g c = steps_end g.T.EncodedText.text c.args.text.now c.next_or_end.new.self (rw c.in-None.is at c.in_ok-element.ensures)
