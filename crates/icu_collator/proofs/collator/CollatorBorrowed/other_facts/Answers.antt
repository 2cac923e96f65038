-- What is known of a character is known of the texts that begin with it.
use Rattle.std.proofs.Common.{sym, subst}
use Rattle.icu_element_reading.specs.TextElements.{Reading}
use Rattle.icu_element_facts.specs.FactsTables.{AreFacts}
use Rattle.icu_element_facts.specs.KeptFacts.{AreTrueFacts}
use Rattle.icu_element_facts.proofs.KeptLemmas.{facts_first}
use Rattle.icu_order_texts.specs.TextOrder.{reading_by}
use Rattle.icu_collator.specs.Collators.{collation_borrowed}
use Rattle.icu_collator.proofs.collator.CollatorBorrowed.other_facts.Goals as goal

pub returns : goal.returns
returns c =
    let reading = reading_by (collation_borrowed c.args.self.now) in
    let same = c.boundaries-places.ensures in
    let facts = c.work_out.result in
    facts_first reading c.args.c facts
    (subst (λ (r : Reading). AreTrueFacts r c.args.c facts) same
    (c.work_out.ensures (subst (λ (r : Reading). AreFacts r c.args.self.now.kept_facts.now) (sym same) c.args.self.now.known)))
