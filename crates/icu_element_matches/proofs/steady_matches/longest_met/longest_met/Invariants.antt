use Rattle.std.proofs.Common.{◌≡◌, ◌-◌, ◌≤◌, length, take}
use Rattle.icu_element_matches.proofs.steady_matches.longest_met.longest_met.Given as goal

-- what was met are the characters that were passed over
abbrev pub invariant-passing : goal.invariant-passing
invariant-passing g l = record {
  unread : g.X.TextForMatches.unread l.text ≡ g.X.TextForMatches.unread l.fn.text;
  inside : g.X.TextForMatches.passed l.text ≤ length (g.X.TextForMatches.unread l.text);
  met : l.met ≡ take (g.X.TextForMatches.passed l.text) (g.X.TextForMatches.unread l.text);
}

abbrev pub decreases-passing : goal.decreases-passing
decreases-passing g l = length (g.X.TextForMatches.unread l.text) - g.X.TextForMatches.passed l.text
