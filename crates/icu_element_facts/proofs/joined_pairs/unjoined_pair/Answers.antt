-- What is kept of two characters that no contraction joins is so.
use Rattle.std.proofs.Common.{rules}
use Rattle.icu_table_data.specs.StoredData.{found_context}
use Rattle.icu_element_reading.specs.boundaries.BoundaryTables.{boundary_reading}
use Rattle.icu_element_facts.proofs.joined_pairs.unjoined_pair.Goals as goal

pub returns-in-None : goal.returns-in-None
unfolding boundary_reading
returns-in-None c =
    c.unjoined.ensures (boundary_reading c.args.places.now)
    (record {
      context = found_context c.args.context;
      begins = c.requires.begins;
      no_numbers = search rules;
      itself = c.requires.itself;
      starter = search rules;
      not_alone = search rules;
      none = c.thirds_of.ensures;
    })
