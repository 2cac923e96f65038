use Rattle.icu_text_decomposition.proofs.MatchableLemmas.{skips}
use Rattle.icu_text_decomposition.proofs.text_for_matches.skip.Goals as goal

pub loop-index-preserved : goal.loop-index-preserved
loop-index-preserved g c = record {
  unread = skips (g.X.TextForMatches.unread c.args.text.now) _ _ c.loop-index.index _ c.loop-index.invariant.unread c.next.ensures.next c.next.ensures.end;
  passed = c.next.ensures.passed;
}
