use Rattle.std.proofs.Common.{◌≡◌, length}
use Rattle.icu_collator.specs.HandledRests.{steady_to_come}
use Rattle.icu_element_cursor.specs.SteadyCursors.{steady_gives}
use Rattle.icu_collator.proofs.steady_text.SteadyTextHandledSource.next_handled.Given as goal

abbrev pub invariant-passing : goal.invariant-passing
invariant-passing g l = steady_to_come g.T.EncodedText.text l.fn.self ≡ steady_to_come g.T.EncodedText.text l.self

abbrev pub decreases-passing : goal.decreases-passing
decreases-passing g l = length (steady_gives g.T.EncodedText.text l.self.elements)
