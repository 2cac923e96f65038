-- What is kept of a character is true of it, and of the texts that begin with it.
use Rattle.std.proofs.Common.{rules}
use Rattle.icu_element_facts.proofs.KeptLemmas.{facts_first}
use Rattle.icu_order_texts.specs.TextOrder.{reading_by}
use Rattle.icu_element_facts.specs.FactsTables.{AreFacts}
use Rattle.icu_collator.specs.Collators.{collation_borrowed}
use Rattle.icu_collator.proofs.collator.CollatorBorrowed.kept_facts.Goals as goal

pub returns-in-Facts : goal.returns-in-Facts
returns-in-Facts c =
    let reading = reading_by (collation_borrowed c.args.self.now) in
    let known : AreFacts reading c.args.self.now.kept_facts.now = search rules in
    facts_first reading c.args.c c.in-Facts.facts.now (c.in-Facts.ensures.known reading known)

pub returns-in-Nothing : goal.returns-in-Nothing
returns-in-Nothing c =
    let reading = reading_by (collation_borrowed c.args.self.now) in
    let known : AreFacts reading c.args.self.now.kept_facts.now = search rules in
    c.leading_jamo.ensures reading known
