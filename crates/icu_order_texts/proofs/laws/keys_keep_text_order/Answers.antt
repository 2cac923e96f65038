use Rattle.icu_order_texts.proofs.TextOrders.{keys_keep, equal_keys, keys_determine}
use Rattle.icu_order_texts.proofs.laws.keys_keep_text_order.Goals as goal

pub returns-clause-order : goal.returns-clause-order
returns-clause-order c = λ collation well_formed t u p q. keys_keep collation well_formed t u p q

pub returns-clause-same : goal.returns-clause-same
returns-clause-same c = λ collation well_formed t u p q. equal_keys collation well_formed t u p q

pub returns-clause-lists : goal.returns-clause-lists
returns-clause-lists c = λ collation well_formed t u p q. keys_determine collation well_formed t u p q
