use Rattle.icu_text_decomposition.proofs.MatchableLemmas.{none_over}
use Rattle.icu_text_decomposition.proofs.matchable_text.MatchableText.new.Goals as goal

pub returns-clause-passed : goal.returns-clause-passed
returns-clause-passed g c = none_over g.T.EncodedText.text c.new.result c.new.ensures.look
