-- Where the lines that are left end is the same.
use Rattle.std.proofs.Common.{◌≡◌, drop}
use Rattle.line_sorts.specs.ShownLines.{shown_lines}
use Rattle.line_searches.specs.LineSpots.{spot_after_lines}
use Rattle.line_searches.proofs.lines_so_far.spot_after_lines.Given as goal

abbrev pub invariant-loop-line : goal.invariant-loop-line
invariant-loop-line l = spot_after_lines l.at (shown_lines (drop l.line-index l.lines)) ≡ spot_after_lines l.fn.spot (shown_lines l.lines)
