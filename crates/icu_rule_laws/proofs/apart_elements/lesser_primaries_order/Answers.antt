-- The law, by its lemma.
use Rattle.icu_rule_laws.proofs.apart_elements.ApartTextLemmas.{lesser_texts}
use Rattle.icu_rule_laws.proofs.apart_elements.lesser_primaries_order.Goals as goal

pub returns : goal.returns
returns c = lesser_texts
