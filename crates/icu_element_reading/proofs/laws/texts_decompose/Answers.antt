use Rattle.icu_element_reading.proofs.DecomposedLemmas.{IsDecomposedText-nfd}
use Rattle.icu_element_reading.proofs.laws.texts_decompose.Goals as goal

pub returns : goal.returns
returns g = λ cs scalars. IsDecomposedText-nfd cs scalars
