use Rattle.std.proofs.Common.{ap, ◌∙◌}
use Rattle.icu_element_reading.proofs.StepLemmas.{elements_after_cons, elements_after_nil}
use Rattle.icu_element_reading.specs.TextElements.{elements_after}
use Rattle.icu_element_reading.proofs.boundaries.NfdLemmas.{nfd-nil}
use Rattle.icu_element_reading.proofs.boundaries.laws.elements_come_step_by_step.Goals as goal

pub returns : goal.returns
returns g = record {
  turns = λ reading before c text. elements_after_cons reading before c text;
  nothing = λ reading before. ap (elements_after reading before) nfd-nil ∙ elements_after_nil reading before;
}
