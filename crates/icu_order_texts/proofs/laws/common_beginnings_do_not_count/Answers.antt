use Rattle.icu_order_texts.proofs.RestOrders.{common_beginnings}
use Rattle.icu_order_texts.proofs.laws.common_beginnings_do_not_count.Goals as goal

pub returns : goal.returns
returns c = common_beginnings
