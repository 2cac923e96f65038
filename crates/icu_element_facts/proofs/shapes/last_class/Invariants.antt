use Rattle.std.proofs.Common.{◌≡◌, ℕ, drop}
use Rattle.icu_element_facts.specs.KeptFacts.{rises_to}
use Rattle.icu_element_facts.proofs.shapes.last_class.Given as goal

abbrev pub invariant-loop-m : goal.invariant-loop-m
invariant-loop-m l = (class : ℕ) → rises_to 0 l.marks class ≡ rises_to l.last (drop l.m-index l.marks) class
