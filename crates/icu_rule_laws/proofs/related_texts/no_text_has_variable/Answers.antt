-- The law, by its lemma.
use Rattle.icu_rule_laws.proofs.related_texts.PlainOrderLemmas.{no_text_has_variable}
use Rattle.icu_rule_laws.proofs.related_texts.no_text_has_variable.Goals as goal

pub returns : goal.returns
returns c = no_text_has_variable
