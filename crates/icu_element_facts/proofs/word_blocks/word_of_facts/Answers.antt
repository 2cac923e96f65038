-- The facts that were added last.
use Rattle.std.proofs.Common.{◌≡◌, ◌+◌, length, rules, arith}
use Rattle.icu_element_reading.specs.boundaries.BoundaryTables.{boundary_reading}
use Rattle.icu_element_facts.proofs.CharWordLemmas.{more_facts, no_word, same_facts}
use Rattle.icu_element_facts.proofs.word_blocks.word_of_facts.Goals as goal

pub returns-then-count-ge-MOST_FACTS : goal.returns-then-count-ge-MOST_FACTS
returns-then-count-ge-MOST_FACTS c =
    let facts = c.args.facts.now.items in
    let reading = boundary_reading c.args.places.now in
    same_facts reading c.args.c 1 facts (no_word reading facts c.args.c)

pub returns : goal.returns
returns c =
    let facts = c.args.facts.now.items in
    let reading = boundary_reading c.args.places.now in
    let at : c.len-count.result ≡ length facts = search rules in
    more_facts reading c.args.c (c.len-count.result + 2) facts c.push_facts_of.new.facts.items c.in_ok-push_facts_of.ensures (omega (arith, at))
