use Rattle.icu_collator.proofs.FactsInStepLemmas.{any_found}
use Rattle.icu_collator.proofs.collator.CollatorBorrowed.plain_form.Goals as goal

pub returns-then-is_plain-clause-plain : goal.returns-then-is_plain-clause-plain
returns-then-is_plain-clause-plain c = any_found c.three_level_form.result _ (c.is_plain.ensures c.if-is_plain.true)
