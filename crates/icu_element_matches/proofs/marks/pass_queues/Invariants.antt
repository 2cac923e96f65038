use Rattle.std.proofs.Common.{◌≡◌, ◌≤◌, ◌++◌, [], ℕ, List, length, take, drop}
use Rattle.icu_table_data.specs.StoredData.{found_context}
use Rattle.icu_element_matches.specs.inner.Joining.{greatest_class, match_behind}
use Rattle.icu_element_matches.specs.inner.MarkQueues.{queued_marks}
use Rattle.icu_element_matches.proofs.marks.pass_queues.Given as goal

-- the queues so far were passed over
abbrev pub invariant-loop-index : goal.invariant-loop-index
invariant-loop-index l = record {
  marks : (left : List ℕ) → match_behind (found_context l.context).mappings l.matched (queued_marks (take l.index l.queues.items)) (queued_marks (drop l.index l.queues.items) ++ left)
      ≡ match_behind (found_context l.context).mappings l.fn.matched [] (queued_marks l.fn.queues.items ++ left);
  greatest : greatest_class (queued_marks (take l.index l.queues.items)) ≡ l.greatest;
  fewer : length (queued_marks l.queues.items) ≤ length (queued_marks l.fn.queues.items);
  count : length l.queues.items ≡ length l.fn.queues.items;
}
