use Rattle.std.proofs.Common.{rules}
use Rattle.icu_element_cursor.proofs.cursor.ElementCursor.take_mark.Goals as goal

pub take_both-requires-clause-stands : goal.take_both-requires-clause-stands
take_both-requires-clause-stands g c = c.requires.facts.mark c.requires.mark (g.T.EncodedText.text c.args.rest) (search rules)

pub read_facts-requires-clause-stands : goal.read_facts-requires-clause-stands
read_facts-requires-clause-stands g c = c.requires.facts.mark c.requires.mark (g.T.EncodedText.text c.args.rest) (search rules)
