-- An own character, a syllable, or one with facts.
use Rattle.icu_element_reading.specs.boundaries.BoundaryTables.{boundary_reading}
use Rattle.icu_element_facts.proofs.CharWordLemmas.{own_word, no_word, same_facts}
use Rattle.icu_element_facts.proofs.word_blocks.word_of_char.Goals as goal

pub returns-then-needs_no_facts : goal.returns-then-needs_no_facts
returns-then-needs_no_facts c =
    let facts = c.args.facts.now.items in
    let reading = boundary_reading c.args.places.now in
    same_facts reading c.args.c 0 facts (own_word reading facts c.args.c (c.needs_no_facts.ensures c.if-needs_no_facts.true))

pub returns-then-is_syllable : goal.returns-then-is_syllable
returns-then-is_syllable c =
    let facts = c.args.facts.now.items in
    let reading = boundary_reading c.args.places.now in
    same_facts reading c.args.c 1 facts (no_word reading facts c.args.c)
