-- What is printed of lines that are sorted.
use Rattle.std.specs.Prelude.{◌≡◌, ℕ, List}
use Rattle.std.specs.Ordering.{is_eq}
use Rattle.icu_collator.specs.NameOrders.{name_order, IsStablySorted}
use Rattle.icu_order_texts.specs.Collations.{Collation}
use Rattle.line_sorts.specs.FirstLines.{printed}
use Rattle.line_sorts.specs.InputLines.{ended_lines, lines_by}
use Rattle.line_sorts.specs.declared.sort_request.SortRequest.{SortRequest}
use Rattle.line_commands.specs.LineOrders.{line_order}

-- The output has the lines of the input in order, those of which neither comes first as they stood; where no line is
-- repeated, of those that compare Equal the first alone.
pub record SortsInput (c : Collation) (r : SortRequest) (input output : List ℕ) : Type 0 where
  pub lines : List (List ℕ)
  pub sorted : IsStablySorted (line_order c r.order) (lines_by r.separator input) lines
  pub written : output ≡ ended_lines r.separator (printed r.repeats (λ x y. is_eq (name_order c x y)) lines)
