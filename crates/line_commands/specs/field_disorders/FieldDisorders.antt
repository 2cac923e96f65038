-- Lines that aren't in the order of their fields (POSIX, "sort", options -c and -k).
use Rattle.std.specs.Prelude.{ℕ, Bool, List, [], ◌∷◌, Option, None}
use Rattle.std.specs.Ordering.{is_ge, is_gt}
use Rattle.std.specs.declared.cmp.Ordering.{Ordering}
use Rattle.icu_order_levels.specs.ListOrder.{list_order}
use Rattle.icu_order_texts.specs.weighting.Collations.{Collation}
use Rattle.line_sorts.specs.KeyedOrders.{ordered_as}
use Rattle.line_sorts.specs.declared.line_order.LineOrder.{LineOrder}
use Rattle.line_sorts.specs.declared.sort_request.Repeats.{Repeats}
use Rattle.line_sorts.specs.declared.sort_request.Repeats.TheVariants as repeats
use Rattle.line_sorts.specs.declared.sort_request.SortRequest.{SortRequest}
use Rattle.line_commands.specs.Disorders.{disorder_behind}
use Rattle.line_sorts.specs.declared.fields.field_key.FieldEnds.{FieldEnds}
use Rattle.line_commands.specs.field_sorts.FieldOrders.{line_key}
use Rattle.line_commands.specs.declared.field_sorts.field_sort.FieldSort.{FieldSort}

-- the order of lines by keys, and then by their bytes where that is asked for, in a direction
abbrev pub order_by_key : (List ℕ → List ℕ) → LineOrder → List ℕ → List ℕ → Ordering
order_by_key key o = ordered_as o (λ x y. list_order (key x) (key y)) list_order

-- a line whose order behind the one before it is this may not stand there: it is less, or where no line may be
-- repeated not greater
abbrev pub is_wrong : Repeats → Ordering → Bool
is_wrong repeats.All order = is_gt order
is_wrong repeats.FirstOnly order = is_ge order

-- a line may not stand behind another
abbrev pub key_stands_wrong : (List ℕ → List ℕ) → SortRequest → List ℕ → List ℕ → Bool
key_stands_wrong key r before line = is_wrong r.repeats (order_by_key key r.order before line)

-- the index of the first line that may not stand behind the one before it, by keys
abbrev pub first_key_disorder : (List ℕ → List ℕ) → SortRequest → List (List ℕ) → Option ℕ
first_key_disorder key r [] = None
first_key_disorder key r (line ∷ lines) = disorder_behind (key_stands_wrong key r) 1 line lines

-- by the keys of fields, by which lines are sorted
abbrev pub first_field_disorder : Collation → FieldEnds → List FieldSort → SortRequest → List (List ℕ) → Option ℕ
first_field_disorder c ends sorts = first_key_disorder (line_key c ends sorts)
