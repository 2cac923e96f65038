use Rattle.icu_rule_laws.proofs.mapped_texts.MappedTextLemmas.{read_by_mappings}
use Rattle.icu_rule_laws.proofs.mapped_texts.texts_are_read_by_mappings.Goals as goal

pub returns : goal.returns
returns c = read_by_mappings
