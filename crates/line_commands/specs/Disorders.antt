-- Lines that aren't in order.
use Rattle.std.specs.Prelude.{ℕ, ◌+◌, Bool, List, [], ◌∷◌, Option, Some, None, if◌then◌else◌}
use Rattle.std.specs.Ordering.{is_ge, is_gt}
use Rattle.icu_order_texts.specs.Collations.{Collation}
use Rattle.line_commands.specs.LineOrders.{line_order}
use Rattle.line_sorts.specs.declared.sort_request.Repeats.TheVariants as repeats
use Rattle.line_sorts.specs.declared.sort_request.SortRequest.{SortRequest}

-- a line may not stand behind another: it is less, or where none may be repeated not greater
abbrev pub stands_wrong : Collation → SortRequest → List ℕ → List ℕ → Bool
stands_wrong c r before line = elim r.repeats [
  | repeats.All ↦ is_gt (line_order c r.order before line)
  | repeats.FirstOnly ↦ is_ge (line_order c r.order before line)
]

-- of lines behind another, which is the one before this index, the index of the first that may not stand where it does
abbrev pub disorder_behind : (List ℕ → List ℕ → Bool) → ℕ → List ℕ → List (List ℕ) → Option ℕ
disorder_behind wrong index before [] = None
disorder_behind wrong index before (line ∷ lines) =
    if wrong before line then Some index else disorder_behind wrong (index + 1) line lines

-- the index of the first line that may not stand behind the one before it
abbrev pub first_disorder : Collation → SortRequest → List (List ℕ) → Option ℕ
first_disorder c r [] = None
first_disorder c r (line ∷ lines) = disorder_behind (stands_wrong c r) 1 line lines
