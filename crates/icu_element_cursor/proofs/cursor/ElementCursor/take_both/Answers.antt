use Rattle.std.proofs.Common.{rules}
use Rattle.icu_element_facts.specs.KeptFacts.{char_elements}
use Rattle.icu_element_cursor.specs.Cursors.{cursor_reading, gives_with}
use Rattle.icu_element_cursor.proofs.CursorLemmas.{both_begun}
use Rattle.icu_element_cursor.proofs.cursor.ElementCursor.take_both.Goals as goal

pub returns : goal.returns
unfolding gives_with
returns g c =
    let text = g.T.EncodedText.text in
    let next = c.args.next in record {
      next = both_begun (cursor_reading c.args.self.now.tables.now) _ _ c.requires.nothing c.args.c next.0 c.args.facts.now _ _ (char_elements next.1.now) _ _ (text c.args.rest) (text next.2) _ _
          c.requires.text c.requires.next c.requires.stands c.requires.next_stands c.keep.ensures c.requires.one (search rules) c.index-elements-0.is c.push.ensures c.push-2.ensures;
    }
