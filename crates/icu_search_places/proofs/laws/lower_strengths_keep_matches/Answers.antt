use Rattle.icu_search_places.proofs.FoundLemmas as lemmas
use Rattle.icu_search_places.proofs.laws.lower_strengths_keep_matches.Goals as goal

pub returns : goal.returns
returns c = lemmas.lower_strengths
