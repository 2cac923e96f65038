-- A plain character that has contractions begins them.
use Rattle.icu_table_data.specs.StoredData.{found_context}
use Rattle.icu_table_data.proofs.ViolationLemmas.{weaker_some}
use Rattle.icu_element_reading.specs.boundaries.BoundaryTables.{boundary_reading}
use Rattle.icu_element_facts.specs.Followers.{BeginsContractions, HasContractions}
use Rattle.icu_element_facts.proofs.contractions.plain_contractions_of.Goals as goal

pub returns-then-is_plain-clause-begins : goal.returns-then-is_plain-clause-begins
returns-then-is_plain-clause-begins c =
    let reading = boundary_reading c.args.places.now in
    weaker_some (λ context. HasContractions reading c.args.c (found_context context)) (λ context. BeginsContractions reading c.args.c (found_context context))
    (λ context h. record {
      itself = c.is_plain.ensures.itself c.if-is_plain.true;
      starter = c.is_plain.ensures.starter c.if-is_plain.true;
      no_diacritic = h.no_diacritic;
      begins = h.begins;
      same = h.same;
    })
    c.contractions_of.result c.contractions_of.ensures.begins
