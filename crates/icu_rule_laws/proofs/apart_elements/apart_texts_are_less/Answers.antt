-- The law, by its lemma.
use Rattle.icu_rule_laws.proofs.apart_elements.ApartTextLemmas.{texts_are_less}
use Rattle.icu_rule_laws.proofs.apart_elements.apart_texts_are_less.Goals as goal

pub returns : goal.returns
returns c = texts_are_less
