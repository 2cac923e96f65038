use Rattle.icu_search_places.proofs.ApartLemmas as apart
use Rattle.icu_search_places.proofs.laws.found_matches_stand_apart.Goals as goal

pub returns : goal.returns
returns c = apart.found_matches_stand_apart
