use Rattle.std.proofs.Common.{ap, ◌∙◌}
use Rattle.icu_element_reading.specs.Reading.{reading_of}
use Rattle.icu_element_reading.specs.TextElements.{elements_after}
use Rattle.icu_element_reading.proofs.steady_elements.steady_elements.SteadyElements.new.Goals as goal

pub returns : goal.returns
returns g c =
    c.after.ensures ∙ ap (λ before. elements_after (reading_of c.args.reading) before (g.X.TextForMatches.unread c.args.text)) c.new.ensures
