-- What was appended, and then what is left, is the whole; as many are left as those that are wanted of the rest leave.
use Rattle.std.proofs.Common.{◌≡◌, ◌+◌, ◌-◌, ◌≤◌, ◌++◌, drop, map, filter, length}
use Rattle.icu_search.specs.Searchers.{search_of}
use Rattle.line_sorts.specs.ShownLines.{shown_lines}
use Rattle.line_searches.specs.WantedLines.{wanted_from, wanted_lines, wants}
use Rattle.line_searches.proofs.wanted_lines.wanted_text.Given as goal

abbrev pub invariant-loop-line : goal.invariant-loop-line
invariant-loop-line l =
    let s = map search_of l.searchers in
    record {
      few : l.left ≤ l.request.at_most;
      whole : l.text.items ++ wanted_from l.request s l.left l.spot (shown_lines (drop l.line-index l.line-items))
          ≡ wanted_lines l.request s (shown_lines l.line-items);
      counted : l.left - length (filter (wants l.request s) (shown_lines (drop l.line-index l.line-items)))
          ≡ l.request.at_most - length (filter (wants l.request s) (shown_lines l.line-items));
    }
