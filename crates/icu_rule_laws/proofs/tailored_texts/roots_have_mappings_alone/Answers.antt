use Rattle.icu_rule_laws.proofs.tailored_texts.AloneMappings.{roots_have_alone}
use Rattle.icu_rule_laws.proofs.tailored_texts.roots_have_mappings_alone.Goals as goal

pub returns : goal.returns
returns c = roots_have_alone
