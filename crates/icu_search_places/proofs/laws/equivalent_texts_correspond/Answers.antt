use Rattle.icu_search_places.proofs.EquivalentTextLemmas as lemmas
use Rattle.icu_search_places.proofs.laws.equivalent_texts_correspond.Goals as goal

pub returns : goal.returns
returns c = lemmas.equivalent_texts_correspond
