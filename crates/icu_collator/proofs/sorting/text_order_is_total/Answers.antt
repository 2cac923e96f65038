-- Each level is compared by a total order, and the levels in turn are one.
use Rattle.icu_collator.proofs.TotalOrder.{order_total}
use Rattle.icu_collator.proofs.sorting.text_order_is_total.Goals as goal

pub returns : goal.returns
returns c = order_total
