use Rattle.std.proofs.Common.{rules}
use Rattle.icu_element_facts.specs.KeptFacts.{char_elements}
use Rattle.icu_element_cursor.specs.Cursors.{cursor_reading}
use Rattle.icu_element_cursor.specs.FactsCursors.{facts_give}
use Rattle.icu_element_cursor.proofs.CursorLemmas.{both_go_on}
use Rattle.icu_element_cursor.proofs.facts_cursor.FactsCursor.begin_both.Goals as goal

pub returns : goal.returns
unfolding facts_give
returns g c =
    let text = g.T.EncodedText.text in
    let next = c.args.next in
    both_go_on (cursor_reading c.args.self.now.tables.now) _ _ c.args.c next.0 c.args.facts.now _ _ (char_elements next.1.now) _ (text c.args.rest) (text next.2)
    c.requires.nothing c.requires.text c.requires.next c.requires.stands c.requires.next_stands c.keep.ensures c.requires.one (search rules) c.index-elements-0.is
