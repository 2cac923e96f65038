use Rattle.icu_element_reading.proofs.ElementSourceLemmas.{elements_of-sources}
use Rattle.icu_element_reading.proofs.laws.elements_have_sources.Goals as goal

pub returns : goal.returns
returns g = λ reading digits cs scalars. elements_of-sources reading digits cs scalars
