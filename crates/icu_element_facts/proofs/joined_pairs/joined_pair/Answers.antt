-- What is kept of two characters that a contraction joins is so.
use Rattle.std.proofs.Common.{ℕ, sym, ap, ◌∙◌}
use Rattle.icu_table_data.specs.Data.{homed}
use Rattle.icu_table_data.specs.Final.{final_elements}
use Rattle.icu_table_data.specs.StoredData.{found_context}
use Rattle.icu_table_provider.specs.Tables.{entry_of}
use Rattle.icu_element_reading.specs.boundaries.BoundaryTables.{boundary_reading}
use Rattle.icu_element_facts.proofs.joined_pairs.joined_pair.Goals as goal

pub returns : goal.returns
returns c =
    let reading = boundary_reading c.args.places.now in
    let first = c.args.c in
    let names = c.requires.names in
    c.joined.ensures reading
    (record {
      context = found_context c.args.context;
      joined = record {
        begins = c.requires.begins;
        itself = c.requires.itself;
        class = sym c.canonical_combining_class-class.ensures;
        joins = names.joins;
        no_digit = names.no_digit;
        none = c.thirds_of.ensures;
      };
      elements = c.in_ok-few.ensures ∙ ap (λ (e : ℕ). final_elements (homed (entry_of reading.tables first).home e) first) (sym names.comes_to);
    })
