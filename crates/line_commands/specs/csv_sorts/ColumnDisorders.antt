-- Records that aren't in the order of their columns.
use Rattle.std.specs.Prelude.{ℕ, Bool, List, [], ◌∷◌, Option, None}
use Rattle.std.specs.Ordering.{is_ge, is_gt}
use Rattle.icu_order_texts.specs.weighting.Collations.{Collation}
use Rattle.icu_order_levels.specs.ListOrder.{list_order}
use Rattle.line_sorts.specs.KeyedOrders.{directed}
use Rattle.line_sorts.specs.declared.sort_request.Repeats.TheVariants as repeats
use Rattle.line_commands.specs.Disorders.{disorder_behind}
use Rattle.line_commands.specs.csv_sorts.ColumnOrders.{columns_order}
use Rattle.line_commands.specs.declared.csv_sorts.csv_request.CsvRequest.{CsvRequest}

-- a record may not stand behind another: it is less, or where none may be repeated not greater
abbrev pub record_stands_wrong : Collation → CsvRequest → List ℕ → List ℕ → Bool
record_stands_wrong c r before next = elim r.repeats [
  | repeats.All ↦ is_gt (columns_order c r.delimiter r.columns.now r.direction before next)
  | repeats.FirstOnly ↦ is_ge (columns_order c r.delimiter r.columns.now r.direction before next)
]

-- the index of the first record that may not stand behind the one before it
abbrev pub first_record_disorder : Collation → CsvRequest → List (List ℕ) → Option ℕ
first_record_disorder c r [] = None
first_record_disorder c r (first ∷ rest) = disorder_behind (record_stands_wrong c r) 1 first rest

-- a record with this key may not stand behind one with another
abbrev pub keys_stand_wrong : CsvRequest → List ℕ → List ℕ → Bool
keys_stand_wrong r before next = elim r.repeats [
  | repeats.All ↦ is_gt (directed r.direction list_order before next)
  | repeats.FirstOnly ↦ is_ge (directed r.direction list_order before next)
]
