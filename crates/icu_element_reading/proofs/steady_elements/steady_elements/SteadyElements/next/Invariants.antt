use Rattle.std.proofs.Common.{◌≡◌, length}
use Rattle.icu_element_reading.specs.steady_elements.SteadyElements.{elements_left, text_left}
use Rattle.icu_element_reading.proofs.steady_elements.steady_elements.SteadyElements.next.Given as goal

-- nothing is lost
abbrev pub invariant-steps : goal.invariant-steps
invariant-steps g l = elements_left g.X.TextForMatches.unread l.self ≡ elements_left g.X.TextForMatches.unread l.fn.self

abbrev pub decreases-steps : goal.decreases-steps
decreases-steps g l = length (text_left g.X.TextForMatches.unread l.self)
