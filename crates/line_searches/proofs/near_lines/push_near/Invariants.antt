-- What was appended, and then what is left, is the whole.
use Rattle.std.proofs.Common.{◌≡◌, ◌+◌, ◌++◌, drop, map}
use Rattle.icu_search.specs.Searchers.{search_of}
use Rattle.line_sorts.specs.ShownLines.{shown_lines}
use Rattle.line_searches.specs.NearLines.{near_from}
use Rattle.line_searches.specs.inner.WantedCounts.{count_before}
use Rattle.line_searches.proofs.near_lines.push_near.Given as goal

abbrev pub invariant-loop-line : goal.invariant-loop-line
invariant-loop-line l =
    let s = map search_of l.searchers in
    record {
      numbered : l.index ≡ l.first + l.line-index;
      whole : l.text.items ++ near_from (count_before l.counts) l.request s l.index l.at (shown_lines (drop l.line-index l.lines))
          ≡ l.initial.text.items ++ near_from (count_before l.counts) l.request s l.first l.fn.spot (shown_lines l.lines);
    }
