use Rattle.std.proofs.Common.{◌≡◌, length}
use Rattle.icu_collator.specs.HandledRests.{handled_to_come}
use Rattle.icu_element_cursor.specs.Cursors.{cursor_gives}
use Rattle.icu_collator.proofs.handled.HandledTextHandledSource.next_handled.Given as goal

abbrev pub invariant-passing : goal.invariant-passing
invariant-passing g l = handled_to_come g.T.EncodedText.text l.fn.self ≡ handled_to_come g.T.EncodedText.text l.self

abbrev pub decreases-passing : goal.decreases-passing
decreases-passing g l = length (cursor_gives g.T.EncodedText.text l.self.elements)
