-- The mapping that a bisection finds is the longest.
use Rattle.std.proofs.Common.{◌∙◌}
use Rattle.icu_table_data.specs.StoredData.{found_context}
use Rattle.icu_table_data.proofs.ViolationLemmas.{weaker_some}
use Rattle.icu_element_facts.specs.inner.JoinedPairs.{IsMappingOf, NamesAlone}
use Rattle.icu_element_facts.proofs.joined_pairs.entry_alone.Goals as goal

pub returns : goal.returns
returns c =
    let context = found_context c.args.context in
    weaker_some (λ e. IsMappingOf context c.in_ok-index.index c.args.x e) (λ e. NamesAlone context c.args.x e)
    (λ e m. record {
      joins = record { mapping = m.mapping; joined = c.in_ok-index.ensures.value ∙ m.at; chars = m.chars };
      comes_to = m.comes_to;
      no_digit = m.no_digit;
    })
    c.entry_at.result c.entry_at.ensures
