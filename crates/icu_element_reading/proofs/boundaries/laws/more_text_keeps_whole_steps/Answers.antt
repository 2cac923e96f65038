use Rattle.icu_element_reading.proofs.EnoughLemmas.{elements_after-ahead}
use Rattle.icu_element_reading.proofs.boundaries.CutLemmas.{HasWholeStep-boundary}
use Rattle.icu_element_reading.proofs.boundaries.laws.more_text_keeps_whole_steps.Goals as goal

pub returns : goal.returns
returns g = record {
  steps = λ reading before c text left enough. elements_after-ahead reading before c text left enough;
  boundary = λ reading before c front x back boundary more. HasWholeStep-boundary reading before c front x back boundary more;
}
