use Rattle.icu_element_cursor.specs.Cursors.{cursor_reading}
use Rattle.icu_element_cursor.specs.FactsCursors.{facts_give}
use Rattle.icu_element_cursor.proofs.CursorLemmas.{pair_goes_on}
use Rattle.icu_element_cursor.proofs.facts_cursor.FactsCursor.begin_pair.Goals as goal

pub returns : goal.returns
unfolding facts_give
returns g c =
    let text = g.T.EncodedText.text in
    pair_goes_on (cursor_reading c.args.self.now.tables.now) _ _ c.args.c c.args.read.second _ _ (text c.args.rest) (text c.args.read.rest) c.begin_few.result
    c.requires.nothing c.requires.text c.requires.next c.requires.stand c.begin_few.ensures
