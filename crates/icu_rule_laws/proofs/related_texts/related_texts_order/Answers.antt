-- The law, by its lemma.
use Rattle.icu_rule_laws.proofs.related_texts.PlainOrderLemmas.{related_order}
use Rattle.icu_rule_laws.proofs.related_texts.related_texts_order.Goals as goal

pub returns : goal.returns
returns c = related_order
