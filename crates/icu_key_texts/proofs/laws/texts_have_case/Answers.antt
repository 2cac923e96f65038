use Rattle.icu_key_texts.proofs.CaseLemmas.{text_has_case}
use Rattle.icu_key_texts.proofs.laws.texts_have_case.Goals as goal

pub returns : goal.returns
returns c = λ collation well_formed t text. text_has_case collation well_formed t text
