use Rattle.std.proofs.Common.{sym, ◌∙◌}
use Rattle.icu_table_data.specs.StoredData.{found_context, found_mapping}
use Rattle.icu_element_reading.proofs.MatchedAloneLemmas.{by_mapping, by_default}
use Rattle.icu_element_reading.proofs.matched_alone.contracted_alone.Goals as goal

pub returns-in-Some : goal.returns-in-Some
returns-in-Some c = sym (by_mapping (found_context c.args.context) (found_mapping c.mapping.result) (c.in-Some.ensures.value ∙ c.mapping.ensures))

pub returns-in-None : goal.returns-in-None
returns-in-None c = c.default.ensures ∙ sym (by_default (found_context c.args.context) c.in-None.ensures.value)
