use Rattle.icu_order_texts.proofs.text_laws.EquivalentLemmas.{equivalent_tie, equivalent_key}
use Rattle.icu_order_texts.proofs.text_laws.equivalent_texts_are_equal.Goals as goal

pub returns-clause-order : goal.returns-clause-order
returns-clause-order c = λ collation t u e. equivalent_tie collation t u e

pub returns-clause-key : goal.returns-clause-key
returns-clause-key c = λ collation t u e. equivalent_key collation t u e
