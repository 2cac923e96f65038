use Rattle.icu_text_decomposition.proofs.MatchableLemmas.{none_over}
use Rattle.icu_text_decomposition.proofs.matchable_text.MatchableTextTextForMatches.look_back.Goals as goal

pub returns-clause-passed : goal.returns-clause-passed
returns-clause-passed g c = none_over g.T.EncodedText.text c.look_back.new.self c.look_back.ensures.look
