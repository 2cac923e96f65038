-- What was joined, and then what is left of both, is the whole.
use Rattle.std.proofs.Common.{◌≡◌, ◌+◌, ◌-◌, ◌≤◌, ◌++◌, drop, length}
use Rattle.line_searches.specs.JoinedMatches.{matches_joined}
use Rattle.line_searches.proofs.joined_matches.joined_matches.Given as goal

abbrev pub invariant-matches : goal.invariant-matches
invariant-matches l = record {
  one_has : l.i ≤ length l.one;
  other_has : l.j ≤ length l.other;
  whole : l.list.items ++ matches_joined (drop l.i l.one) (drop l.j l.other) ≡ matches_joined l.one l.other;
}

abbrev pub decreases-matches : goal.decreases-matches
decreases-matches l = (length l.one - l.i) + (length l.other - l.j)
