-- A character that stands before the rest is read by its facts.
use Rattle.std.proofs.Common.{rules}
use Rattle.icu_element_cursor.proofs.cursor.ElementCursor.take_char.Goals as goal

pub take_alone-requires-clause-stands : goal.take_alone-requires-clause-stands
take_alone-requires-clause-stands g c = c.stands_before.ensures c.args.c c.requires.facts (search rules)
