use Rattle.icu_element_cursor.proofs.cursor.ElementCursor.take_single.Goals as goal

pub take_one-requires-clause-stands : goal.take_one-requires-clause-stands
take_one-requires-clause-stands g c = c.in_ok-facts.ensures.starters c.in-Starters.is (g.T.EncodedText.text c.args.rest)
