-- The law, by its lemma.
use Rattle.icu_rule_laws.proofs.related_texts.PlainOrderLemmas.{same_tie}
use Rattle.icu_rule_laws.proofs.related_texts.same_texts_tie.Goals as goal

pub returns : goal.returns
returns c = same_tie
