use Rattle.icu_element_reading.proofs.boundaries.AloneLemmas.{lone_starter}
use Rattle.icu_element_reading.proofs.boundaries.LetterLemmas.{low_letter, low_text, jamo, syllable}
use Rattle.icu_element_reading.proofs.boundaries.laws.lone_starters_are_read_alone.Goals as goal

pub returns : goal.returns
returns g = record {
  starters = λ reading before c split starter alone cs. lone_starter reading before c cs split starter alone;
  low = λ reading before c cs low alone. low_letter reading before c cs low alone;
  low_texts = λ ds cs low. low_text ds cs low;
  jamo = λ reading before c cs low high alone. jamo reading before c cs low high alone;
  syllables = λ reading before c cs is alone. syllable reading before c cs is alone;
}
