use Rattle.std.proofs.Common.{rules}
use Rattle.icu_element_cursor.specs.Cursors.{cursor_reading, gives_with}
use Rattle.icu_element_cursor.proofs.CursorLemmas.{lone_read}
use Rattle.icu_element_cursor.proofs.cursor.ElementCursor.take_one.Goals as goal

pub returns : goal.returns
unfolding gives_with
returns g c = record {
  next = lone_read (cursor_reading c.args.self.now.tables.now) _ _ c.requires.nothing
      c.args.c c.args.facts.now _ (g.T.EncodedText.text c.args.rest) _ _ _ c.requires.text c.requires.stands c.push.ensures c.requires.one (search rules) c.index-elements-0.is;
}
