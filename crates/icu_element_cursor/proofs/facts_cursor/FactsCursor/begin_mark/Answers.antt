use Rattle.std.proofs.Common.{rules}
use Rattle.icu_element_cursor.proofs.facts_cursor.FactsCursor.begin_mark.Goals as goal

pub begin_both-requires-clause-stands : goal.begin_both-requires-clause-stands
begin_both-requires-clause-stands g c = c.requires.facts.mark c.requires.mark (g.T.EncodedText.text c.args.rest) (search rules)

pub begin_alone-requires-clause-stands : goal.begin_alone-requires-clause-stands
begin_alone-requires-clause-stands g c = c.requires.facts.mark c.requires.mark (g.T.EncodedText.text c.args.rest) (search rules)
