use Rattle.std.proofs.Common.{◌++◌, ◌∙◌, List, refl, sym, ap, ap₂}
use Rattle.icu_table_entries.specs.Elements.{Element}
use Rattle.icu_element_cursor.specs.Cursors.{cursor_reading, cursor_gives, gives_with}
use Rattle.icu_element_cursor.specs.inner.ReadCharacters.{context_read}
use Rattle.icu_element_cursor.proofs.CursorLemmas.{all_read, next_piece_begun}
use Rattle.icu_element_cursor.proofs.steady_cursor.SteadyCursor.begin_piece.Goals as goal

pub returns-in_default-clause-shorter : goal.returns-in_default-clause-shorter
unfolding gives_with
returns-in_default-clause-shorter g c =
    let plain = c.args.self.now.plain in
    ap₂ (λ (es fs : List Element). es ++ fs) c.requires.piece
    (all_read (cursor_reading plain.tables.now) _ (context_read plain.recent) c.requires.nothing _ (c.in_default.ensures.none refl))

pub returns-in_default-clause-same : goal.returns-in_default-clause-same
returns-in_default-clause-same g c =
    ap (λ (es : List Element). es ++ cursor_gives g.T.EncodedText.text c.args.self.now.plain) (c.end_piece.ensures ∙ sym c.requires.piece)

pub returns-clause-same : goal.returns-clause-same
unfolding gives_with
returns-clause-same g c =
    let text = g.T.EncodedText.text in
    let plain = c.args.self.now.plain in
    let begun = c.in-Some.ensures.begun in
    next_piece_begun (cursor_reading plain.tables.now) _ (context_read plain.recent) c.requires.nothing (text plain.text) begun.piece (text c.in-Some.left) _ _
    c.requires.piece begun.is begun.elements
