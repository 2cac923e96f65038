use Rattle.std.proofs.Common.{◌≡◌, length}
use Rattle.icu_element_cursor.specs.SteadyCursors.{steady_gives}
use Rattle.icu_element_cursor.proofs.steady_cursor.SteadyCursor.next.Given as goal

-- nothing is lost
abbrev pub invariant-pieces : goal.invariant-pieces
invariant-pieces g l = steady_gives g.T.EncodedText.text l.self ≡ steady_gives g.T.EncodedText.text l.fn.self

abbrev pub decreases-pieces : goal.decreases-pieces
decreases-pieces g l = length (g.T.EncodedText.text l.self.plain.text)
