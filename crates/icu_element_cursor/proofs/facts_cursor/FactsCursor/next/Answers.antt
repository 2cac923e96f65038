use Rattle.icu_element_cursor.proofs.CursorLemmas.{element_goes_on}
use Rattle.icu_element_cursor.proofs.facts_cursor.FactsCursor.next.Goals as goal

pub returns-in-Some : goal.returns-in-Some
returns-in-Some g c =
    element_goes_on g.T.EncodedText.text c.args.self.now c.next_or_end.new.self c.in-Some.next c.in-Some.ensures
