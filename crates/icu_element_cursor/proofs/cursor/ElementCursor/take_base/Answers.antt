use Rattle.std.proofs.Common.{rules}
use Rattle.icu_element_cursor.proofs.cursor.ElementCursor.take_base.Goals as goal

pub take_alone-requires-clause-stands : goal.take_alone-requires-clause-stands
take_alone-requires-clause-stands g c =
    c.requires.facts.base c.requires.base (g.T.EncodedText.text c.args.rest) (c.goes_on_none.ensures (search rules))
