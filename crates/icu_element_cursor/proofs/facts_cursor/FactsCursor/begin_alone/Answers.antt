use Rattle.icu_element_facts.specs.KeptFacts.{char_elements}
use Rattle.icu_element_cursor.specs.Cursors.{cursor_reading}
use Rattle.icu_element_cursor.specs.FactsCursors.{facts_give}
use Rattle.icu_element_cursor.proofs.CursorLemmas.{facts_goes_on}
use Rattle.icu_element_cursor.proofs.facts_cursor.FactsCursor.begin_alone.Goals as goal

pub returns : goal.returns
unfolding facts_give
returns g c =
    facts_goes_on (cursor_reading c.args.self.now.tables.now) _ _ c.args.c (char_elements c.args.facts.now) _ (g.T.EncodedText.text c.args.rest) c.begin.result
    c.requires.nothing c.requires.text c.requires.stands c.begin.ensures
