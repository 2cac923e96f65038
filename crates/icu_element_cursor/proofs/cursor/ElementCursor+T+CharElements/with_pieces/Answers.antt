use Rattle.std.proofs.Common.{List, ◌++◌, ap}
use Rattle.unicode_normalization.specs.Forms.{nfd}
use Rattle.icu_table_entries.specs.Elements.{Element}
use Rattle.icu_element_reading.specs.TextElements.{elements_after}
use Rattle.icu_element_cursor.specs.Cursors.{cursor_reading, gives_with}
use Rattle.icu_element_cursor.specs.inner.ReadCharacters.{context_read}
use Rattle.icu_element_cursor.proofs.cursor.ElementCursor+T+CharElements.with_pieces.Goals as goal

pub returns : goal.returns
unfolding gives_with
returns g c =
    let old = c.args.self.now in
    ap (λ (es : List Element). es ++ elements_after (cursor_reading old.tables.now) (context_read old.recent) (nfd (g.T.EncodedText.text old.text))) c.of_char.ensures
