use Rattle.icu_search_places.proofs.SearchPieceLemmas as lemmas
use Rattle.icu_search_places.proofs.laws.search_is_local.Goals as goal

pub returns : goal.returns
returns c = lemmas.search_is_local
