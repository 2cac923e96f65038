-- Where no mapping goes on, none begins with the character and another.
use Rattle.std.proofs.Common.{sym, ◌∙◌}
use Rattle.icu_table_data.specs.StoredData.{found_context}
use Rattle.icu_element_facts.proofs.JoinedPairLemmas.{none_further, negated}
use Rattle.icu_element_facts.proofs.joined_pairs.thirds_of.Goals as goal

pub returns-else-mapping_goes_on : goal.returns-else-mapping_goes_on
returns-else-mapping_goes_on c = λ d none. none_further (found_context c.args.context).mappings c.args.x d (negated _ (sym c.mapping_goes_on.ensures ∙ c.if-mapping_goes_on.false))
