use Rattle.std.proofs.Common.{◌≡◌, [], ap, ◌∙◌}
use Rattle.icu_element_reading.specs.LastChars.{recent_chars}
use Rattle.icu_element_reading.specs.Reading.{reading_of}
use Rattle.icu_element_reading.specs.TextElements.{elements_after}
use Rattle.icu_element_reading.proofs.StepLemmas.{elements_after_nil}
use Rattle.icu_text_decomposition.specs.short_text.ArrayTexts.{array_unread}
use Rattle.icu_element_reading.specs.steady_elements.SteadyElements.{elements_left}
use Rattle.icu_element_cursor.proofs.ready_elements.ReadyElements.none.Goals as goal

pub invariant_of-result : goal.invariant_of-result
invariant_of-result c =
    let reading = reading_of c.args.reading in
    let nothing : elements_left array_unread c.after.result ≡ [] =
    c.after.ensures ∙ ap (elements_after reading (recent_chars c.new.result)) c.new-2.ensures ∙ elements_after_nil reading (recent_chars c.new.result) in
    record { no_piece = λ _. nothing; none_left = λ _. record { of_char = c.none.ensures; of_piece = nothing } }
