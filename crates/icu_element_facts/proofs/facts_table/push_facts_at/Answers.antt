use Rattle.std.proofs.Common.{ap, ◌∙◌, [], ◌∷◌, ◌++◌, if◌then◌else◌}
use Rattle.icu_table_provider.proofs.well_formed.NamedLemmas.{on_ok_by}
use Rattle.icu_element_facts.proofs.facts_table.push_facts_at.Goals as goal

pub returns : goal.returns
returns c =
    let old = c.args.kept_facts.now.items in
    let facts = c.facts_at-facts.result in
    on_ok_by c.extend_from_slice.result
    (λ ok. record {
      facts = facts;
      appended = c.extend_from_slice.ensures.items ∙ ap (λ b. if b then old ++ facts ∷ [] else old) ok;
      kept = c.facts_at-facts.ensures;
    })
