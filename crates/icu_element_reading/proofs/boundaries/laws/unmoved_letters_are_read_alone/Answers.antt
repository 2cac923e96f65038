use Rattle.icu_element_reading.proofs.boundaries.AloneLemmas.{letter_that_stays, composed_letter, lone_mark}
use Rattle.icu_element_reading.proofs.boundaries.laws.unmoved_letters_are_read_alone.Goals as goal

pub returns : goal.returns
returns g = record {
  all = λ reading before c ds cs split stay alone. letter_that_stays reading before c ds cs split stay alone;
  composed = λ reading before letter c s ts cs split starter alone. composed_letter reading before letter c s ts cs split starter alone;
  marks = λ reading before m cs split stays alone. lone_mark reading before m cs split stays alone;
}
