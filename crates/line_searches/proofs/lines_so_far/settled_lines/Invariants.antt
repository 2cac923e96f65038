-- No more lines are settled than there are.
use Rattle.std.proofs.Common.{◌≤◌}
use Rattle.line_searches.proofs.lines_so_far.settled_lines.Given as goal

abbrev pub invariant-loop-i : goal.invariant-loop-i
invariant-loop-i l = l.settled ≤ l.lines
