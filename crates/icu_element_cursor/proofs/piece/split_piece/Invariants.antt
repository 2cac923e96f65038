use Rattle.std.proofs.Common.{◌≡◌, ◌+◌, ◌≤◌, drop, length}
use Rattle.icu_element_cursor.proofs.piece.split_piece.Given as goal

-- so many characters stand before what is left
abbrev pub invariant-chars : goal.invariant-chars
invariant-chars g l = record {
  left : g.T.EncodedText.text l.rest ≡ drop l.count (g.T.EncodedText.text l.fn.text);
  fits : l.count + length (g.T.EncodedText.text l.rest) ≤ length (g.T.EncodedText.text l.fn.text);
  some : 1 ≤ l.count;
}

abbrev pub decreases-chars : goal.decreases-chars
decreases-chars g l = length (g.T.EncodedText.text l.rest)
