use Rattle.icu_order_texts.proofs.text_laws.NumberTextLemmas.{digits_are_number, order_by_value, different_values}
use Rattle.icu_order_texts.proofs.text_laws.number_texts_order_by_value.Goals as goal

pub returns-clause-digits : goal.returns-clause-digits
returns-clause-digits c = λ collation well_formed on t text is. digits_are_number collation well_formed on t text is

pub returns-clause-value : goal.returns-clause-value
returns-clause-value c = λ collation well_formed below t u ds es p q. order_by_value collation well_formed t u ds es p q below

pub returns-clause-different : goal.returns-clause-different
returns-clause-different c = λ collation well_formed t u ds es p q n. different_values collation well_formed t u ds es p q n
