use Rattle.std.proofs.Common.{rules}
use Rattle.icu_element_cursor.proofs.facts_cursor.FactsCursor.begin.Goals as goal

pub begin_alone-requires-clause-stands : goal.begin_alone-requires-clause-stands
begin_alone-requires-clause-stands g c = c.stands_at_once.ensures c.args.c c.requires.facts (search rules)
