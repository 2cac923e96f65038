-- What is printed of lines that are sorted by fields.
use Rattle.std.specs.Prelude.{◌≡◌, ℕ, List}
use Rattle.std.specs.Ordering.{is_eq}
use Rattle.icu_collator.specs.NameOrders.{IsStablySorted}
use Rattle.icu_order_texts.specs.weighting.Collations.{Collation}
use Rattle.line_sorts.specs.FirstLines.{printed}
use Rattle.line_sorts.specs.InputLines.{ended_lines, lines_by}
use Rattle.line_sorts.specs.declared.sort_request.SortRequest.{SortRequest}
use Rattle.line_sorts.specs.declared.fields.field_key.FieldEnds.{FieldEnds}
use Rattle.line_commands.specs.field_sorts.FieldOrders.{by_fields, fields_order}
use Rattle.line_commands.specs.declared.field_sorts.field_sort.FieldSort.{FieldSort}

-- The output has the lines of the input in the order of their fields, those of which neither comes first as they stood;
-- where no line is repeated, of those whose fields compare equal the first alone.
pub record SortsByFields (c : Collation) (ends : FieldEnds) (sorts : List FieldSort) (r : SortRequest) (input output : List ℕ) : Type 0 where
  pub lines : List (List ℕ)
  pub sorted : IsStablySorted (fields_order c ends sorts r.order) (lines_by r.separator input) lines
  pub written : output ≡ ended_lines r.separator (printed r.repeats (λ x y. is_eq (by_fields c ends sorts x y)) lines)
