use Rattle.icu_rule_laws.proofs.mapped_texts.RootTextLemmas.{roots_read_by_mappings}
use Rattle.icu_rule_laws.proofs.mapped_texts.roots_are_read_by_mappings.Goals as goal

pub returns : goal.returns
returns c = roots_read_by_mappings
