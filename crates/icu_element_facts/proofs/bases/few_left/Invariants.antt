use Rattle.std.proofs.Common.{◌≡◌, ◌++◌}
use Rattle.icu_element_reading.specs.steady_elements.SteadyElements.{elements_left}
use Rattle.icu_element_facts.specs.FewElements.{few_elements}
use Rattle.icu_element_facts.proofs.bases.few_left.Given as goal

-- those that were read, and those that are left
abbrev pub invariant-elements : goal.invariant-elements
invariant-elements g l = elements_left g.X.TextForMatches.unread l.fn.elements ≡ few_elements l.few ++ elements_left g.X.TextForMatches.unread l.elements
