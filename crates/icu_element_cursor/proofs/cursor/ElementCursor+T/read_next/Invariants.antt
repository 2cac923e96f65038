use Rattle.std.proofs.Common.{◌≡◌, ◌≤◌, length}
use Rattle.icu_element_cursor.specs.Cursors.{cursor_gives}
use Rattle.icu_element_cursor.proofs.cursor.ElementCursor+T.read_next.Given as goal

-- nothing is lost, and no more is to be read
abbrev pub invariant-turns : goal.invariant-turns
invariant-turns g l = record {
  gives : cursor_gives g.T.EncodedText.text l.self ≡ cursor_gives g.T.EncodedText.text l.fn.self;
  fewer : length (g.T.EncodedText.text l.self.text) ≤ length (g.T.EncodedText.text l.fn.self.text);
}

abbrev pub decreases-turns : goal.decreases-turns
decreases-turns g l = length (g.T.EncodedText.text l.self.text)
