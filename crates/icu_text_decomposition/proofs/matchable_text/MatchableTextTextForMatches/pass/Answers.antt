use Rattle.icu_text_decomposition.proofs.MatchableLemmas.{passes_next, passes_count}
use Rattle.icu_text_decomposition.proofs.matchable_text.MatchableTextTextForMatches.pass.Goals as goal

pub returns-clause-next : goal.returns-clause-next
returns-clause-next g c = passes_next _ _ _ _ c.args.self.now.places.behind c.pass.ensures.next c.pass.ensures.end

pub returns-clause-passed : goal.returns-clause-passed
returns-clause-passed g c = passes_count _ _ _ _ _ c.args.self.now.places.behind c.pass.ensures.next c.pass.ensures.unread
