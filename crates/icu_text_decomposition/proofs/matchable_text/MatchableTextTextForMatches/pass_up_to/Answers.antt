use Rattle.icu_text_decomposition.proofs.MatchableLemmas.{counts_over}
use Rattle.icu_text_decomposition.proofs.matchable_text.MatchableTextTextForMatches.pass_up_to.Goals as goal

pub returns-clause-passed : goal.returns-clause-passed
returns-clause-passed g c = counts_over g.T.EncodedText.text c.pass_up_to.new.self _ _ c.pass_up_to.ensures.unread c.pass_up_to.ensures.passed
