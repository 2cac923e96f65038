-- The order of records by their columns.
use Rattle.std.specs.Prelude.{ℕ, List, [], ◌∷◌, ◌++◌, IsSome, Bool, drop, if◌then◌else◌, take, unwrap_or}
use Rattle.std.specs.List.{AllByRecursion}
use Rattle.std.specs.declared.cmp.Ordering.{Ordering}
use Rattle.csv.specs.Records.{field_at}
use Rattle.line_sorts.specs.csv_records.CsvFields.{csv_fields}
use Rattle.icu_order_levels.specs.ListOrder.{list_order}
use Rattle.icu_order_texts.specs.weighting.Collations.{Collation}
use Rattle.line_sorts.specs.KeyedOrders.{ordered_as}
use Rattle.line_sorts.specs.declared.line_order.Direction.{Direction}
use Rattle.line_sorts.specs.declared.line_order.LineOrder.{LineOrder}
use Rattle.line_sorts.specs.declared.line_order.Ties.TheVariants.{AsTheyCame}
use Rattle.line_sorts.specs.fields.JoinedKeys.{directed_key}
use Rattle.line_commands.specs.field_sorts.FieldOrders.{part_key}
use Rattle.line_commands.specs.declared.csv_sorts.csv_request.ColumnSort.{ColumnSort}

-- the key of fields by a column
abbrev pub column_key : Collation → List (List ℕ) → ColumnSort → List ℕ
column_key c fields sort = part_key c sort.order (unwrap_or (field_at fields sort.column) [])

-- The key of fields by some columns: their keys in their directions, one behind another. The first column that differs
-- decides, by the law of keys that are put together
abbrev pub fields_key : Collation → List (List ℕ) → List ColumnSort → List ℕ
fields_key c fields [] = []
fields_key c fields (sort ∷ sorts) = directed_key sort.direction (column_key c fields sort) ++ fields_key c fields sorts

-- the key of a record by some columns
abbrev pub columns_key : Collation → ℕ → List ColumnSort → List ℕ → List ℕ
columns_key c delimiter columns record_bytes = fields_key c (csv_fields delimiter record_bytes) columns

-- a record has each of these columns
abbrev pub HasColumns : ℕ → List ColumnSort → List ℕ → Type 0
HasColumns delimiter columns record_bytes = AllByRecursion (λ sort. IsSome (field_at (csv_fields delimiter record_bytes) sort.column)) columns

-- the order of two records by some columns
abbrev pub by_columns : Collation → ℕ → List ColumnSort → List ℕ → List ℕ → Ordering
by_columns c delimiter columns x y = list_order (columns_key c delimiter columns x) (columns_key c delimiter columns y)

-- an order in which records stand as they came where neither comes first
abbrev pub as_they_came : Direction → LineOrder
as_they_came direction = record { direction = direction; ties = AsTheyCame }

-- the order of records, in a direction
abbrev pub columns_order : Collation → ℕ → List ColumnSort → Direction → List ℕ → List ℕ → Ordering
columns_order c delimiter columns direction = ordered_as (as_they_came direction) (by_columns c delimiter columns) list_order

-- the records before those that are sorted: the header, if the first is one
abbrev pub header_of : {X : Type 0} → Bool → List X → List X
header_of has_header records = if has_header then take 1 records else []

-- the records that are sorted
abbrev pub body_of : {X : Type 0} → Bool → List X → List X
body_of has_header records = if has_header then drop 1 records else records
