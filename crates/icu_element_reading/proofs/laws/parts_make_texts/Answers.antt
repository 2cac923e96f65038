use Rattle.std.proofs.Common.{IsTrue}
use Rattle.icu_element_reading.proofs.ElementPartLemmas.{elements_of-well_formed, elements_of-pass}
use Rattle.icu_element_reading.proofs.laws.parts_make_texts.Goals as goal

pub returns : goal.returns
returns g = record {
  lists = λ holds reading parts text read. elements_of-well_formed (λ es. IsTrue (holds es)) reading parts text read;
  elements = λ test reading parts text read. elements_of-pass test reading parts text read;
}
