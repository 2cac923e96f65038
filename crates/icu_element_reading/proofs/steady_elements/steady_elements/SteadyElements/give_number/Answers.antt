use Rattle.std.proofs.Common.{List, ◌++◌, ◌∙◌, ap, append-nil}
use Rattle.icu_table_entries.specs.Elements.{Element}
use Rattle.icu_element_reading.specs.LastChars.{recent_chars}
use Rattle.icu_element_reading.specs.Reading.{reading_of}
use Rattle.icu_element_reading.specs.TextElements.{elements_after}
use Rattle.icu_element_reading.proofs.StepLemmas.{elements_after_nil}
use Rattle.icu_element_reading.specs.steady_elements.SteadyElements.{elements_left}
use Rattle.icu_element_reading.specs.steady_elements.inner.RunDigits.{weights_given}
use Rattle.icu_element_reading.proofs.steady_elements.steady_elements.SteadyElements.give_number.Goals as goal

pub returns : goal.returns
unfolding elements_left
returns g c =
    ap (λ t. weights_given c.args.number.now ++ elements_after (reading_of c.args.self.now.reading) (recent_chars c.args.self.now.place.recent) t) c.requires
    ∙ ap (λ (es : List Element). weights_given c.args.number.now ++ es) (elements_after_nil (reading_of c.args.self.now.reading) (recent_chars c.args.self.now.place.recent))
    ∙ append-nil (weights_given c.args.number.now)
