use Rattle.std.proofs.Common.{List, ◌++◌, refl, sym, ap, ◌∙◌}
use Rattle.unicode_normalization.specs.Forms.{nfd}
use Rattle.icu_table_entries.specs.Elements.{Element}
use Rattle.icu_element_reading.specs.TextElements.{elements_after}
use Rattle.icu_element_cursor.specs.Cursors.{cursor_reading, gives_with}
use Rattle.icu_element_cursor.specs.inner.ReadCharacters.{context_read}
use Rattle.icu_element_cursor.proofs.CursorLemmas.{begun_first}
use Rattle.icu_element_cursor.proofs.cursor.ElementCursor+T.read_piece.Goals as goal

pub returns-in_default-clause-stays : goal.returns-in_default-clause-stays
unfolding gives_with
returns-in_default-clause-stays g c =
    let cursor = c.args.self.now in
    let unread = elements_after (cursor_reading cursor.tables.now) (context_read cursor.recent) (nfd (g.T.EncodedText.text cursor.text)) in
    let nothing = c.in_default.ensures.none refl in
    record {
      gives = ap (λ (es : List Element). es ++ unread) (nothing ∙ sym c.requires.nothing);
      nothing = nothing;
      text_is = refl;
    }

pub returns-clause-next : goal.returns-clause-next
unfolding gives_with
returns-clause-next g c =
    let cursor = c.args.self.now in
    begun_first (cursor_reading cursor.tables.now) _ (context_read cursor.recent) c.requires.nothing (g.T.EncodedText.text cursor.text) _ (g.T.EncodedText.text c.in-Some.left) _ c.requires.text c.in-Some.ensures.begun
    ∙ c.take_ready.ensures.next
