-- Records that aren't in order are those whose keys aren't.
use Rattle.std.proofs.Common.{◌≡◌, ℕ, ◌+◌, ◌-◌, ◌≤◌, Bool, List, [], ◌∷◌, Option, Some, map, if◌then◌else◌, length, get_or, take, drop, refl, ap, ◌∙◌, sym, arith}
use Rattle.std.proofs.lemmas.List.{take_all}
use Rattle.std.specs.Borrow.{Bor}
use Rattle.std.specs.Ordering.{is_ge, is_gt}
use Rattle.line_sorts.specs.ShownLines.{shown_lines}
use Rattle.line_sorts.specs.declared.sort_request.Repeats.{Repeats}
use Rattle.icu_order_levels.specs.ListOrder.{list_order}
use Rattle.icu_order_texts.specs.weighting.Collations.{Collation}
use Rattle.line_sorts.specs.declared.line_order.Direction.TheVariants as directions
use Rattle.line_sorts.specs.declared.sort_request.Repeats.TheVariants as repeats
use Rattle.line_commands.specs.Disorders.{disorder_behind}
use Rattle.line_commands.specs.csv_sorts.ColumnDisorders.{first_record_disorder, keys_stand_wrong, record_stands_wrong}
use Rattle.line_commands.specs.csv_sorts.ColumnOrders.{columns_key, columns_order}
use Rattle.line_commands.specs.declared.csv_sorts.csv_request.ColumnSort.{ColumnSort}
use Rattle.line_commands.specs.declared.csv_sorts.csv_request.CsvRequest.{CsvRequest}
use Rattle.line_sorts.specs.KeyedOrders.{directed}
use Rattle.line_sorts.specs.declared.line_order.Direction.{Direction}

-- the order of records is that of their keys
columns_order_by_keys : (c : Collation) (d : ℕ) (columns : List ColumnSort) (direction : Direction) (x y : List ℕ)
    → columns_order c d columns direction x y ≡ directed direction list_order (columns_key c d columns x) (columns_key c d columns y)
columns_order_by_keys c d columns directions.Ascending x y = refl
columns_order_by_keys c d columns directions.Descending x y = refl

-- a record may not stand behind another where its key may not
stands_where : (c : Collation) (r : CsvRequest) (x y : List ℕ) (which : Repeats) → r.repeats ≡ which
    → record_stands_wrong c r x y ≡ keys_stand_wrong r (columns_key c r.delimiter r.columns.now x) (columns_key c r.delimiter r.columns.now y)
stands_where c r x y repeats.All is =
    rw (is, record_stands_wrong, keys_stand_wrong) (ap is_gt (columns_order_by_keys c r.delimiter r.columns.now r.direction x y))
stands_where c r x y repeats.FirstOnly is =
    rw (is, record_stands_wrong, keys_stand_wrong) (ap is_ge (columns_order_by_keys c r.delimiter r.columns.now r.direction x y))

stands_by_keys : (c : Collation) (r : CsvRequest) (x y : List ℕ)
    → record_stands_wrong c r x y ≡ keys_stand_wrong r (columns_key c r.delimiter r.columns.now x) (columns_key c r.delimiter r.columns.now y)
stands_by_keys c r x y = stands_where c r x y r.repeats refl

-- the first wrong record has the first wrong key
pub disorder_by_keys : (c : Collation) (r : CsvRequest) (index : ℕ) (before : List ℕ) (records : List (List ℕ))
    → disorder_behind (record_stands_wrong c r) index before records
    ≡ disorder_behind (keys_stand_wrong r) index (columns_key c r.delimiter r.columns.now before) (map (columns_key c r.delimiter r.columns.now) records)
disorder_by_keys c r index before [] = refl
disorder_by_keys c r index before (x ∷ records) =
    ap (λ (b : Bool). if b then Some index else disorder_behind (record_stands_wrong c r) (index + 1) x records) (stands_by_keys c r before x)
    ∙ ap (λ (o : Option ℕ). if keys_stand_wrong r (columns_key c r.delimiter r.columns.now before) (columns_key c r.delimiter r.columns.now x) then Some index else o)
    (disorder_by_keys c r (index + 1) x records)

-- the first wrong one of borrowed records, where the key of the first is known
pub first_by_keys : (c : Collation) (r : CsvRequest) (records : List (Bor (List ℕ))) (start : Bor (List ℕ)) (key : List ℕ) → 1 ≤ length records
    → key ≡ columns_key c r.delimiter r.columns.now (get_or records 0 start).now
    → disorder_behind (keys_stand_wrong r) 1 key (map (columns_key c r.delimiter r.columns.now) (shown_lines (take (length records - 1) (drop 1 records))))
    ≡ first_record_disorder c r (shown_lines records)
first_by_keys c r [] start key some is = absurd (omega (arith, some))
first_by_keys c r (x ∷ records) start key some is =
    let columns : List ℕ → List ℕ = columns_key c r.delimiter r.columns.now in
    ap (λ (ls : List (Bor (List ℕ))). disorder_behind (keys_stand_wrong r) 1 key (map columns (shown_lines ls))) (take_all (length (x ∷ records) - 1) records (omega arith))
    ∙ (ap (λ k. disorder_behind (keys_stand_wrong r) 1 k (map columns (shown_lines records))) is
    ∙ sym (disorder_by_keys c r 1 x.now (shown_lines records)))
