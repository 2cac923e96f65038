-- The pair comes after those there are.
use Rattle.icu_element_reading.specs.boundaries.BoundaryTables.{boundary_reading}
use Rattle.icu_element_facts.proofs.JoinedPairLemmas.{still_ok}
use Rattle.icu_element_facts.proofs.joined_pairs.push_pair.Goals as goal

pub returns-in-Some : goal.returns-in-Some
returns-in-Some c = still_ok c.push.result c.push.ensures (λ more. more (boundary_reading c.args.places.now) c.in-Some.ensures)
