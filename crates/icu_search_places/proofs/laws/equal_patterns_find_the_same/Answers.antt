use Rattle.icu_search_places.proofs.FoundLemmas as lemmas
use Rattle.icu_search_places.proofs.laws.equal_patterns_find_the_same.Goals as goal

pub returns-clause-equal : goal.returns-clause-equal
returns-clause-equal c = lemmas.equal_patterns

pub returns-clause-equivalent : goal.returns-clause-equivalent
returns-clause-equivalent c = lemmas.equivalent_patterns
