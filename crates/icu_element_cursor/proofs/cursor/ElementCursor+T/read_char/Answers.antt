-- A character that stands before the rest is read by its facts.
use Rattle.icu_element_cursor.proofs.cursor.ElementCursor+T.read_char.Goals as goal

pub read_facts-requires-clause-stands : goal.read_facts-requires-clause-stands
read_facts-requires-clause-stands g c = c.stands_before.ensures c.args.c c.requires.facts c.if-stands_before.true
