use Rattle.icu_search_places.proofs.SearchPartLemmas as lemmas
use Rattle.icu_search_places.proofs.laws.parts_are_read_as_in_the_whole.Goals as goal

pub returns-clause-elements : goal.returns-clause-elements
returns-clause-elements c = lemmas.read_as_in_whole

pub returns-clause-places : goal.returns-clause-places
returns-clause-places c = lemmas.part_has_places

pub returns-clause-lists : goal.returns-clause-lists
returns-clause-lists c = lemmas.lists_begin
