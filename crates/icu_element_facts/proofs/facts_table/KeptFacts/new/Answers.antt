-- What is kept of pairs is so from the first one on.
use Rattle.icu_element_reading.specs.boundaries.BoundaryTables.{boundary_reading}
use Rattle.icu_element_facts.proofs.facts_table.KeptFacts.new.Goals as goal

pub returns : goal.returns
returns c = record {
  latin = c.in_ok-latin.ensures.kept_facts;
  jamo = c.in_ok-jamo.ensures.kept_facts;
  words = c.in_ok-words.ensures;
  pairs = c.in_ok-push_all_pairs-2.ensures (c.in_ok-push_all_pairs.ensures (c.in_ok-pairs.ensures (boundary_reading c.args.places)));
}
