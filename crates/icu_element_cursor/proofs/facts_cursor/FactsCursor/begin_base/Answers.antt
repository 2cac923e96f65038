use Rattle.std.proofs.Common.{rules}
use Rattle.icu_element_cursor.proofs.facts_cursor.FactsCursor.begin_base.Goals as goal

pub begin_alone-requires-clause-stands : goal.begin_alone-requires-clause-stands
begin_alone-requires-clause-stands g c =
    c.requires.facts.base c.requires.base (g.T.EncodedText.text c.args.rest) (c.goes_on_none.ensures (search rules))
