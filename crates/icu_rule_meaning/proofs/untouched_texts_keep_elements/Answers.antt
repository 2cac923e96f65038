use Rattle.unicode_normalization.specs.Forms.{nfd}
use Rattle.icu_rule_meaning.proofs.KeptRootLemmas.{untouched_elements}
use Rattle.icu_rule_meaning.proofs.untouched_texts_keep_elements.Goals as goal

pub returns : goal.returns
returns c = λ root rules text untouched. untouched_elements root rules (nfd text) untouched
