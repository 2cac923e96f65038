use Rattle.icu_order_texts.proofs.text_laws.TextOrderLemmas.{texts_ordered}
use Rattle.icu_order_texts.proofs.text_laws.texts_are_ordered.Goals as goal

pub returns : goal.returns
returns c = λ collation well_formed. texts_ordered collation well_formed
