use Rattle.std.proofs.Common.{◌≡◌, ◌<◌, ◌≤◌, ◌++◌, ℕ, List, length}
use Rattle.icu_table_data.specs.StoredData.{found_context}
use Rattle.icu_element_matches.specs.inner.Joining.{greatest_class, match_behind}
use Rattle.icu_element_matches.proofs.marks.join_queue.Given as goal

-- going on from here comes to what the whole comes to
abbrev pub invariant-marks : goal.invariant-marks
invariant-marks l = record {
  marks : (passed left : List ℕ) → greatest_class passed < l.fn.queue.class
      → match_behind (found_context l.context).mappings l.matched passed (l.queue.marks.items ++ left) ≡ match_behind (found_context l.context).mappings l.fn.matched passed (l.fn.queue.marks.items ++ left);
  class : l.queue.class ≡ l.fn.queue.class;
  fewer : length l.queue.marks.items ≤ length l.fn.queue.marks.items;
}

abbrev pub decreases-marks : goal.decreases-marks
decreases-marks l = length l.queue.marks.items
