-- What was counted, and then what is left, is the whole.
use Rattle.std.proofs.Common.{◌≡◌, ◌+◌, ◌++◌, drop, length, map}
use Rattle.icu_search.specs.Searchers.{search_of}
use Rattle.line_sorts.specs.ShownLines.{shown_lines}
use Rattle.line_searches.specs.inner.WantedCounts.{count_behind, counts_from}
use Rattle.line_searches.proofs.near_lines.count_lines.Given as goal

abbrev pub invariant-loop-line : goal.invariant-loop-line
invariant-loop-line l =
    let s = map search_of l.searchers in
    let first = l.initial.counts in
    record {
      counted : l.counts.before.items ++ counts_from l.request s l.counts.total (shown_lines (drop l.line-index l.lines))
          ≡ first.before.items ++ counts_from l.request s first.total (shown_lines l.lines);
      total : count_behind l.request s l.counts.total (shown_lines (drop l.line-index l.lines))
          ≡ count_behind l.request s first.total (shown_lines l.lines);
      more : length l.counts.before.items ≡ length first.before.items + l.line-index;
    }
