-- A syllable decomposes to its first jamo and others.
use Rattle.icu_element_facts.proofs.SyllableLemmas.{first_facts, first_jamo}
use Rattle.icu_element_facts.proofs.facts_table.KeptFacts.leading_jamo.Goals as goal

pub returns : goal.returns
returns c = λ reading are.
    let number = c.in_ok-number.ensures in
    let parts = first_jamo c.args.c c.in_ok-number.number number.0 number.1 in
    first_facts reading c.args.c _ parts.0 c.in_ok-leading.leading.now parts.1 (c.in_ok-leading.ensures reading are)
