use Rattle.icu_search_places.proofs.FoundLemmas as lemmas
use Rattle.icu_search_places.proofs.laws.every_match_is_met.Goals as goal

pub returns-clause-met : goal.returns-clause-met
returns-clause-met c = lemmas.matches_are_met

pub returns-clause-nothing : goal.returns-clause-nothing
returns-clause-nothing c = lemmas.no_match
