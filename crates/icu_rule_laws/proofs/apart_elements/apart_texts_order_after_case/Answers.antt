-- The law, by its lemma.
use Rattle.icu_rule_laws.proofs.apart_elements.ApartTextLemmas.{texts_after_case}
use Rattle.icu_rule_laws.proofs.apart_elements.apart_texts_order_after_case.Goals as goal

pub returns : goal.returns
returns c = texts_after_case
