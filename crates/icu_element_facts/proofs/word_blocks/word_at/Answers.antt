-- A surrogate has no word that says something.
use Rattle.icu_element_reading.specs.boundaries.BoundaryTables.{boundary_reading}
use Rattle.icu_element_facts.proofs.CharWordLemmas.{no_word, same_facts}
use Rattle.icu_element_facts.proofs.word_blocks.word_at.Goals as goal

pub returns-in-None : goal.returns-in-None
returns-in-None c =
    let facts = c.args.facts.now.items in
    let reading = boundary_reading c.args.places.now in
    same_facts reading c.args.code 1 facts (no_word reading facts c.args.code)
