use Rattle.icu_search_places.proofs.LeastLemmas as least
use Rattle.icu_search_places.proofs.laws.least_matches_hold_no_other.Goals as goal

pub returns : goal.returns
returns c = least.least_matches_hold_no_other
