-- What is kept of a jamo is what is known of it.
use Rattle.std.proofs.Common.{◌≤◌, ◌<◌, ◌+◌, rules, arith}
use Rattle.icu_element_facts.specs.KeptChars.{KeptChar}
use Rattle.icu_element_facts.proofs.KeptLemmas.{known_facts}
use Rattle.icu_element_facts.proofs.SyllableLemmas.{own_jamo}
use Rattle.icu_element_facts.proofs.facts_table.KeptFacts.jamo.Goals as goal

pub returns-in-Starters : goal.returns-in-Starters
returns-in-Starters c = λ reading are.
    let at = 0x1100 + c.args.number in
    let facts = c.index-facts.result.now in
    let kept : KeptChar reading at facts = search rules in
    let low : 0x1100 ≤ at = omega arith in
    let high : at < 0x1200 = omega (arith, c.requires) in
    own_jamo reading at facts low high c.in-Starters.is c.if-facts-eq1.true (known_facts reading at facts kept)
