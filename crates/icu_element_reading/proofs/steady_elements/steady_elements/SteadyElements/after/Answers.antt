use Rattle.icu_element_reading.specs.LastChars.{recent_chars}
use Rattle.icu_element_reading.specs.Reading.{reading_of}
use Rattle.icu_element_reading.specs.steady_elements.SteadyElements.{elements_left}
use Rattle.icu_element_reading.proofs.steady_elements.SteadyStepLemmas.{between_steps}
use Rattle.icu_element_reading.proofs.steady_elements.steady_elements.SteadyElements.after.Goals as goal

pub returns : goal.returns
unfolding elements_left
returns g c =
    between_steps (reading_of c.args.reading) c.none.result (recent_chars c.args.recent) (g.X.TextForMatches.unread c.args.text) c.none.ensures
