use Rattle.icu_element_facts.proofs.facts_table.KeptFacts.pair.Goals as goal

pub returns : goal.returns
returns c = λ reading are. c.get.ensures reading are.pairs
