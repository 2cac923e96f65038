use Rattle.icu_order_texts.proofs.TextOrders.{each_level}
use Rattle.icu_order_texts.proofs.laws.levels_keep_text_order.Goals as goal

pub returns : goal.returns
returns c = λ collation well_formed t u p q. each_level collation well_formed t u p q
