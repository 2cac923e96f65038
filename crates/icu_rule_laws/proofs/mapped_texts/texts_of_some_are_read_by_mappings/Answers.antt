use Rattle.icu_rule_laws.proofs.mapped_texts.MappedTextLemmas.{some_read_by_mappings}
use Rattle.icu_rule_laws.proofs.mapped_texts.texts_of_some_are_read_by_mappings.Goals as goal

pub returns : goal.returns
returns c = some_read_by_mappings
