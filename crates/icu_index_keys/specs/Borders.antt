-- Borders between keys (UTS #10, "Compare Sort Keys").
use Rattle.std.specs.Prelude.{ℕ, Bool, List}
use Rattle.std.specs.Ordering.{is_le, is_lt}
use Rattle.std.specs.declared.cmp.Ordering.{Ordering}
use Rattle.icu_order_levels.specs.ListOrder.{list_order}
use Rattle.icu_index_keys.specs.declared.borders.Border.{Border}
use Rattle.icu_index_keys.specs.declared.borders.Border.TheVariants.{Before, Behind}

-- the key that a border goes by
abbrev pub border_key : Border → List ℕ
border_key (Before key) = key.now
border_key (Behind key) = key.now

-- whether a key that compares so to the border's stands before the border
abbrev pub stands_before : Border → Ordering → Bool
stands_before (Before key) order = is_lt order
stands_before (Behind key) order = is_le order

-- whether a key stands before a border
abbrev pub lies_before : Border → List ℕ → Bool
lies_before b key = stands_before b (list_order key (border_key b))
