use Rattle.std.proofs.Common.{◌≡◌, drop}
use Rattle.icu_text_decomposition.proofs.text_for_matches.skip.Given as goal

-- so many were read
abbrev pub invariant-loop-index : goal.invariant-loop-index
invariant-loop-index g l = record {
  unread : g.X.TextForMatches.unread l.text ≡ drop l.index (g.X.TextForMatches.unread l.fn.text);
  passed : g.X.TextForMatches.passed l.text ≡ 0;
}
