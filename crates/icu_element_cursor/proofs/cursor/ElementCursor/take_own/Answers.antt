use Rattle.icu_element_cursor.specs.Cursors.{cursor_reading, gives_with}
use Rattle.icu_element_cursor.proofs.CursorLemmas.{one_read}
use Rattle.icu_element_cursor.proofs.cursor.ElementCursor.take_own.Goals as goal

pub returns : goal.returns
unfolding gives_with
returns g c =
    let rest = g.T.EncodedText.text c.args.rest in record {
      next = one_read (cursor_reading c.args.self.now.tables.now) _ _ c.requires.nothing c.args.c _ _ rest _ c.in_ok-element.element
          c.requires.text (c.requires.own.stands rest) c.push.ensures c.in_ok-element.ensures;
    }
