use Rattle.icu_search_places.proofs.FoundLemmas as lemmas
use Rattle.icu_search_places.proofs.laws.found_parts_match.Goals as goal

pub returns-clause-equal : goal.returns-clause-equal
returns-clause-equal c = lemmas.found_parts_match

pub returns-clause-key : goal.returns-clause-key
returns-clause-key c = lemmas.found_keys

pub returns-clause-apart : goal.returns-clause-apart
returns-clause-apart c = lemmas.found_parts_stand_apart
