-- Those that were counted, and then those that are left, are all.
use Rattle.std.proofs.Common.{◌≡◌, ◌+◌, ◌≤◌, drop, map, filter, length}
use Rattle.std.specs.Prelude.{min}
use Rattle.icu_search.specs.Searchers.{search_of}
use Rattle.line_sorts.specs.ShownLines.{shown_lines}
use Rattle.line_searches.specs.WantedLines.{wanted_count, wants}
use Rattle.line_searches.proofs.wanted_lines.count_wanted.Given as goal

abbrev pub invariant-loop-line : goal.invariant-loop-line
invariant-loop-line l =
    let s = map search_of l.searchers in
    record {
      small : l.count ≤ l.line-index;
      few : l.count ≤ l.request.at_most;
      counted : min l.request.at_most (l.count + length (filter (wants l.request s) (shown_lines (drop l.line-index l.line-items))))
          ≡ wanted_count l.request s (shown_lines l.line-items);
    }
