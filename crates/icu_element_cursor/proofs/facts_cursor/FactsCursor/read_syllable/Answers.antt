use Rattle.icu_element_cursor.specs.Cursors.{cursor_reading}
use Rattle.icu_element_cursor.specs.FactsCursors.{facts_give}
use Rattle.icu_element_cursor.proofs.CursorLemmas.{facts_goes_on}
use Rattle.icu_element_cursor.proofs.facts_cursor.FactsCursor.read_syllable.Goals as goal

pub returns : goal.returns
unfolding facts_give
returns g c =
    let rest = g.T.EncodedText.text c.args.rest in
    facts_goes_on (cursor_reading c.args.self.now.tables.now) _ _ c.args.c _ _ rest c.begin_few.result
    c.requires.nothing c.requires.text (c.in_ok-few.ensures rest) c.begin_few.ensures
