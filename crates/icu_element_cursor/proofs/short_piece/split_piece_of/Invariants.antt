-- What stands before the rest is decomposed, and not yet in order.
use Rattle.std.proofs.Common.{◌≤◌, ◌∷◌, length}
use Rattle.unicode_normalization.specs.Order.{canonical_order}
use Rattle.icu_text_decomposition.specs.short_text.ArrayTexts.{array_unread}
use Rattle.icu_element_cursor.specs.inner.Pieces.{AreDecomposed}
use Rattle.icu_element_cursor.proofs.short_piece.split_piece_of.Given as goal

abbrev pub invariant-chars : goal.invariant-chars
invariant-chars g l = record {
  decomposed : AreDecomposed (l.fn.first ∷ g.T.EncodedText.text l.fn.text) (canonical_order (array_unread l.piece)) (g.T.EncodedText.text l.rest);
  fewer : length (g.T.EncodedText.text l.rest) ≤ length (g.T.EncodedText.text l.fn.text);
}

abbrev pub decreases-chars : goal.decreases-chars
decreases-chars g l = length (g.T.EncodedText.text l.rest)
