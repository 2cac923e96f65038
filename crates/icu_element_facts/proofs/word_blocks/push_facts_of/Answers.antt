-- The facts come after those there are.
use Rattle.std.proofs.Common.{ap, ◌∙◌, [], ◌∷◌, ◌++◌, if◌then◌else◌}
use Rattle.icu_element_reading.specs.boundaries.BoundaryTables.{boundary_reading}
use Rattle.icu_element_facts.proofs.KeptLemmas.{kept_facts}
use Rattle.icu_table_provider.proofs.well_formed.NamedLemmas.{on_ok_by}
use Rattle.icu_element_facts.proofs.word_blocks.push_facts_of.Goals as goal

pub returns : goal.returns
returns c =
    let old = c.args.facts.now.items in
    let known = c.facts_to_keep-known.result in
    on_ok_by c.extend_from_slice.result
    (λ ok. record {
      facts = known;
      appended = c.extend_from_slice.ensures.items ∙ ap (λ b. if b then old ++ known ∷ [] else old) ok;
      kept = kept_facts (boundary_reading c.args.places.now) c.args.c known c.facts_to_keep-known.ensures;
    })
