use Rattle.std.proofs.Common.{refl, sym, ap, ◌∙◌}
use Rattle.icu_element_reading.specs.LastChars.{recent_chars}
use Rattle.icu_element_reading.specs.Reading.{reading_of}
use Rattle.icu_element_reading.specs.steady_elements.SteadyElements.{elements_left}
use Rattle.icu_element_reading.specs.steady_elements.inner.StepElements.{elements_to_give}
use Rattle.icu_element_reading.proofs.steady_elements.SteadyStepLemmas.{none_left, step_next}
use Rattle.icu_element_reading.proofs.steady_elements.steady_elements.SteadyElements.take_char.Goals as goal

pub returns-in_default-clause-elements : goal.returns-in_default-clause-elements
unfolding elements_left
returns-in_default-clause-elements g c =
    ap (elements_to_give (reading_of c.args.self.now.reading) c.args.self.now.given (recent_chars c.args.self.now.place.recent)) c.in_default.ensures.next

pub returns-in_default-clause-end : goal.returns-in_default-clause-end
unfolding elements_left
returns-in_default-clause-end g c = λ ended.
    none_left (reading_of c.args.self.now.reading) c.args.self.now.given (recent_chars c.args.self.now.place.recent) _ c.requires (c.in_default.ensures.end refl)

pub returns-in-Some-read_char-clause-elements : goal.returns-in-Some-read_char-clause-elements
unfolding elements_left
returns-in-Some-read_char-clause-elements g c =
    sym (c.in-Some-read_char.ensures.elements
    ∙ step_next (reading_of c.args.self.now.reading) c.args.self.now.given (recent_chars c.args.self.now.place.recent) _ c.in-Some.c _ c.requires c.in-Some.ensures.next)

pub returns-in-None-clause-elements : goal.returns-in-None-clause-elements
unfolding elements_left
returns-in-None-clause-elements g c =
    sym (c.in-None.ensures.elements
    ∙ step_next (reading_of c.args.self.now.reading) c.args.self.now.given (recent_chars c.args.self.now.place.recent) _ c.in-Some.c _ c.requires c.in-Some.ensures.next)
