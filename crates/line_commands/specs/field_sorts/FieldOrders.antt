-- The order of lines by their fields (POSIX, "sort", option -k). A line is bytes in UTF-8 that may be damaged.
use Rattle.std.specs.Prelude.{ℕ, List, [], ◌∷◌, ◌++◌}
use Rattle.std.specs.declared.cmp.Ordering.{Ordering}
use Rattle.icu_order_levels.specs.ListOrder.{list_order}
use Rattle.icu_order_texts.specs.weighting.Collations.{Collation}
use Rattle.line_sorts.specs.KeyedOrders.{ordered_as}
use Rattle.line_sorts.specs.declared.line_order.LineOrder.{LineOrder}
use Rattle.collate_commands.specs.LineKeys.{key_of_line}
use Rattle.line_sorts.specs.fields.JoinedKeys.{directed_key}
use Rattle.line_sorts.specs.fields.LineFields.{line_part}
use Rattle.line_sorts.specs.fields.NumberKeys.{number_key}
use Rattle.line_sorts.specs.declared.fields.field_key.FieldEnds.{FieldEnds}
use Rattle.line_commands.specs.declared.field_sorts.field_sort.FieldOrder.{FieldOrder}
use Rattle.line_commands.specs.declared.field_sorts.field_sort.FieldOrder.TheVariants.{AsText, AsNumber}
use Rattle.line_commands.specs.declared.field_sorts.field_sort.FieldSort.{FieldSort}

-- the sort key of a part of a line: by the collation, or that of the number with which it begins
abbrev pub part_key : Collation → FieldOrder → List ℕ → List ℕ
part_key c AsText part = key_of_line c part
part_key c AsNumber part = number_key part

-- the key of a line by one of its parts
abbrev pub field_key : Collation → FieldEnds → FieldSort → List ℕ → List ℕ
field_key c ends sort line = part_key c sort.order (line_part ends sort.part line)

-- The key of a line by several parts: their keys in their directions, one behind another. By the law of keys that are
-- put together the first part that differs decides
abbrev pub line_key : Collation → FieldEnds → List FieldSort → List ℕ → List ℕ
line_key c ends [] line = []
line_key c ends (sort ∷ sorts) line = directed_key sort.direction (field_key c ends sort line) ++ line_key c ends sorts line

-- the order of two lines by these keys
abbrev pub by_fields : Collation → FieldEnds → List FieldSort → List ℕ → List ℕ → Ordering
by_fields c ends sorts x y = list_order (line_key c ends sorts x) (line_key c ends sorts y)

-- the order of lines: by fields, and then by their bytes where that is asked for, in a direction
abbrev pub fields_order : Collation → FieldEnds → List FieldSort → LineOrder → List ℕ → List ℕ → Ordering
fields_order c ends sorts o = ordered_as o (by_fields c ends sorts) list_order
