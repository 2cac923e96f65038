use Rattle.icu_rule_laws.proofs.tailored_texts.AloneMappings.{rules_keep_alone}
use Rattle.icu_rule_laws.proofs.tailored_texts.rules_keep_mappings_alone.Goals as goal

pub returns : goal.returns
returns c = rules_keep_alone
