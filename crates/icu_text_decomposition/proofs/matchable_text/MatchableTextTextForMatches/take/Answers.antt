use Rattle.icu_text_decomposition.proofs.MatchableLemmas.{takes_count}
use Rattle.icu_text_decomposition.proofs.matchable_text.MatchableTextTextForMatches.take.Goals as goal

pub returns-clause-passed : goal.returns-clause-passed
returns-clause-passed g c = takes_count g.T.EncodedText.text c.args.self.now.taking c.take.new.self c.args.mark c.args.self.now.places c.requires c.take.ensures.unread c.take.ensures.ahead
