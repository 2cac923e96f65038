-- The elements may be asked for again.
use Rattle.icu_element_reading.specs.CollationElements.{CanGive}
use Rattle.test_driver.proofs.elements.first_elements.Given as goal

abbrev pub invariant-loop : goal.invariant-loop
invariant-loop g l = CanGive g.I.Iterator.can_next g.I.Iterator.remaining l.elements
