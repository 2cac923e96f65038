-- The order of lines (UTS #10, "Compare Sort Keys"). A line is bytes in UTF-8 that may be damaged.
use Rattle.std.specs.Prelude.{ℕ, List}
use Rattle.std.specs.declared.cmp.Ordering.{Ordering}
use Rattle.icu_collator.specs.NameOrders.{name_order}
use Rattle.icu_order_levels.specs.ListOrder.{list_order}
use Rattle.icu_order_texts.specs.Collations.{Collation}
use Rattle.line_sorts.specs.KeyedOrders.{ordered_as}
use Rattle.line_sorts.specs.declared.line_order.LineOrder.{LineOrder}

-- the order of lines: that of their texts, and then of their bytes where that is asked for, in a direction
abbrev pub line_order : Collation → LineOrder → List ℕ → List ℕ → Ordering
line_order c o = ordered_as o (name_order c) list_order
