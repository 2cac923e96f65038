use Rattle.icu_search_places.proofs.FoundLemmas as lemmas
use Rattle.icu_search_places.proofs.SearchPieceLemmas as pieces
use Rattle.icu_search_places.proofs.laws.texts_match_themselves.Goals as goal

pub returns-clause-whole : goal.returns-clause-whole
returns-clause-whole c = lemmas.matches_itself

pub returns-clause-part : goal.returns-clause-part
returns-clause-part c = pieces.matches_there
