-- What was appended, and then what is left, is the whole.
use Rattle.std.proofs.Common.{◌≡◌, ◌++◌, drop}
use Rattle.line_searches.specs.ShownMatches.{coloured_from}
use Rattle.line_searches.proofs.shown_matches.push_coloured_line.Given as goal

abbrev pub invariant-loop-next : goal.invariant-loop-next
invariant-loop-next l =
    l.text.items ++ coloured_from l.line l.at (drop l.next-index l.matches) ≡ l.initial.text.items ++ coloured_from l.line 0 l.matches
