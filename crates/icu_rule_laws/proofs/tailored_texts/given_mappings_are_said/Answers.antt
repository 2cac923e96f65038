use Rattle.icu_rule_laws.proofs.tailored_texts.SaidMappingLemmas.{given_are_said}
use Rattle.icu_rule_laws.proofs.tailored_texts.given_mappings_are_said.Goals as goal

pub returns : goal.returns
returns c = given_are_said
