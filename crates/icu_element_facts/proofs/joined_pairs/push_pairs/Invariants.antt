use Rattle.icu_element_reading.specs.boundaries.BoundaryTables.{boundary_reading}
use Rattle.icu_element_facts.specs.KeptPairs.{ArePairs}
use Rattle.icu_element_facts.proofs.joined_pairs.push_pairs.Given as goal

-- what is kept so far is so, if what there was is
abbrev pub invariant-loop-index : goal.invariant-loop-index
invariant-loop-index l = ArePairs (boundary_reading l.places) l.fn.pairs → ArePairs (boundary_reading l.places) l.pairs
