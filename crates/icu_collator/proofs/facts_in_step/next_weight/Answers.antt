-- Elements without a weight are passed over, and one with a weight gives it.
use Rattle.std.proofs.Common.{refl, sym, ◌∙◌}
use Rattle.icu_collator.proofs.FactsInStepLemmas.{passes, weight_found, text_ended}
use Rattle.icu_collator.proofs.facts_in_step.next_weight.Goals as goal

pub passing-init : goal.passing-init
passing-init g c = record { weights = λ before. (before, refl); reading = refl }

pub passing-preserved : goal.passing-preserved
passing-preserved g c = record {
  weights =
      passes c.args.level g.T.EncodedText.text c.args.text.now c.passing.text c.next_stayed.new.text c.in_ok-handled.field-0 c.in-Some.handled
      c.passing.invariant.weights c.in_ok-handled.ensures.next c.in-Some.is (sym c.weight.ensures ∙ c.in_default-weight.is);
  reading = c.in_ok-handled.ensures.reading ∙ c.passing.invariant.reading;
}

pub returns-in_default-clause-reading : goal.returns-in_default-clause-reading
returns-in_default-clause-reading g c = c.in_ok-handled.ensures.reading ∙ c.passing.invariant.reading

pub returns-in-Some-weight-clause-reading : goal.returns-in-Some-weight-clause-reading
returns-in-Some-weight-clause-reading g c = c.in_ok-handled.ensures.reading ∙ c.passing.invariant.reading

pub returns-in-Some-weight-clause-next : goal.returns-in-Some-weight-clause-next
returns-in-Some-weight-clause-next g c =
    weight_found c.args.level g.T.EncodedText.text c.args.text.now c.passing.text c.next_stayed.new.text c.in_ok-handled.field-0 c.in-Some.handled c.in-Some-weight.weight
    c.passing.invariant.weights c.in_ok-handled.ensures.next c.in-Some.is (sym c.weight.ensures ∙ c.in-Some-weight.is)

pub returns-in_default-clause-next : goal.returns-in_default-clause-next
returns-in_default-clause-next g c =
    text_ended c.args.level g.T.EncodedText.text c.args.text.now c.passing.text c.next_stayed.new.text c.in_ok-handled.field-0
    c.passing.invariant.weights c.in_ok-handled.ensures.next c.in_default.is
