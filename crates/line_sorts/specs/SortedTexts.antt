-- What is written of lines that are sorted by their keys.
use Rattle.std.specs.Prelude.{◌≡◌, ℕ, List}
use Rattle.std.specs.List.Sorted.{IsPermutation, IsSorted, IsStable}
use Rattle.std.specs.Ordering.{is_eq}
use Rattle.std.specs.declared.cmp.Ordering.{Ordering}
use Rattle.icu_order_levels.specs.ListOrder.{list_order}
use Rattle.line_sorts.specs.FirstLines.{printed}
use Rattle.line_sorts.specs.InputLines.{ended_lines}
use Rattle.line_sorts.specs.KeyedOrders.{ordered_as}
use Rattle.line_sorts.specs.declared.sort_request.SortRequest.{SortRequest}

-- the order of two lines by their keys
abbrev pub by_key : (List ℕ → List ℕ) → List ℕ → List ℕ → Ordering
by_key key x y = list_order (key x) (key y)

-- The text has these lines in the order of their keys, and then of their bytes if that is asked for, in a direction.
-- Those of which neither comes first stand as they stood; if no line is repeated, of those with one key the first alone
pub record SortsByKey (key : List ℕ → List ℕ) (r : SortRequest) (lines : List (List ℕ)) (text : List ℕ) : Type 0 where
  pub sorted : List (List ℕ)
  pub permutation : IsPermutation lines sorted
  pub ascends : IsSorted (ordered_as r.order (by_key key) list_order) sorted
  pub stable : IsStable (ordered_as r.order (by_key key) list_order) lines sorted
  pub written : text ≡ ended_lines r.separator (printed r.repeats (λ x y. is_eq (by_key key x y)) sorted)
