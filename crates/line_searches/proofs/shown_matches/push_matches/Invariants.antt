-- What was appended, and then what is left, is the whole.
use Rattle.std.proofs.Common.{◌≡◌, ◌++◌, drop}
use Rattle.line_searches.specs.WantedLines.{match_lines}
use Rattle.line_searches.proofs.shown_matches.push_matches.Given as goal

abbrev pub invariant-loop-next : goal.invariant-loop-next
invariant-loop-next l =
    l.text.items ++ match_lines l.request l.spot l.line (drop l.next-index l.matches)
    ≡ l.initial.text.items ++ match_lines l.request l.spot l.line l.matches
