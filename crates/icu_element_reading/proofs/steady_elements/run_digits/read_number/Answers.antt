use Rattle.std.proofs.Common.{ℕ, List, [], ◌++◌, map, sym, ap, ◌∙◌}
use Rattle.icu_table_entries.specs.Elements.{of_primary}
use Rattle.icu_order_levels.specs.Numbers.{number_weights, value_of}
use Rattle.icu_element_reading.specs.LastChars.{recent_chars}
use Rattle.icu_element_reading.specs.Reading.{reading_of}
use Rattle.icu_element_reading.specs.TextElements.{Reading}
use Rattle.icu_element_reading.specs.steady_elements.inner.RunDigits.{room_digits, run_elements}
use Rattle.icu_element_reading.proofs.steady_elements.RunDigitLemmas.{number_read, run_started}
use Rattle.icu_element_reading.proofs.steady_elements.run_digits.read_number.Goals as goal

pub returns-clause-elements : goal.returns-clause-elements
returns-clause-elements g c =
    let reading : Reading = reading_of c.args.reading in
    let before : List ℕ = recent_chars c.read_digits-digits.new.at.recent in
    let text : List ℕ = g.X.TextForMatches.unread c.read_digits-digits.new.at.text in
    ap (λ ws. map of_primary ws ++ run_elements reading c.args.lead [] before text)
    (c.new.ensures ∙ ap (λ (ds : List ℕ). number_weights c.args.lead (value_of ds)) c.as_slice.ensures.value)
    ∙ sym (number_read reading c.args.lead (room_digits c.read_digits-digits.result) before text c.as_slice.ensures.first c.as_slice.ensures.fits c.read_digits-digits.ensures.number)
    ∙ c.read_digits-digits.ensures.elements
    ∙ run_started reading c.args.lead c.args.first (recent_chars c.args.at.now.recent) (g.X.TextForMatches.unread c.args.at.now.text)
