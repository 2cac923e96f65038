-- The law, by its lemma.
use Rattle.icu_rule_laws.proofs.apart_elements.ApartTextLemmas.{alike_texts}
use Rattle.icu_rule_laws.proofs.apart_elements.alike_texts_order.Goals as goal

pub returns : goal.returns
returns c = alike_texts
