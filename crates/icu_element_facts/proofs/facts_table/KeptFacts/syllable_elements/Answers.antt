-- A syllable decomposes to the jamo whose elements it has.
use Rattle.std.proofs.Common.{List, ℕ, sym, subst}
use Rattle.icu_element_facts.specs.FewElements.{few_elements}
use Rattle.icu_element_facts.specs.KeptFacts.{StandByThemselves}
use Rattle.icu_element_facts.proofs.SyllableLemmas.{two_jamo, three_jamo}
use Rattle.icu_element_facts.proofs.facts_table.KeptFacts.syllable_elements.Goals as goal

pub returns-then-number-eq0 : goal.returns-then-number-eq0
returns-then-number-eq0 c = λ reading are.
    let number = c.in_ok-number.ensures in
    subst (λ (cs : List ℕ). StandByThemselves reading cs (few_elements c.two_elements.result))
    (sym (two_jamo c.args.c c.in_ok-number.number number.0 number.1 c.if-number-eq0.true))
    (c.two_elements.ensures reading _ _ (c.in_ok-leading.ensures reading are) (c.in_ok-vowel.ensures reading are))

pub returns : goal.returns
returns c = λ reading are.
    let number = c.in_ok-number.ensures in
    subst (λ (cs : List ℕ). StandByThemselves reading cs (few_elements c.three_elements.result))
    (sym (three_jamo c.args.c c.in_ok-number.number number.0 number.1 c.if-number-eq0.false))
    (c.three_elements.ensures reading _ _ _ (c.in_ok-leading.ensures reading are) (c.in_ok-vowel.ensures reading are) (c.in_ok-trailing.ensures reading are))
