use Rattle.std.proofs.Common.{ℕ, List, sym, ap₂, ◌∙◌}
use Rattle.icu_element_reading.specs.LastChars.{recent_chars}
use Rattle.icu_element_reading.specs.Reading.{reading_of}
use Rattle.icu_element_reading.specs.TextElements.{Reading, elements_after}
use Rattle.icu_element_reading.specs.steady_elements.SteadyElements.{elements_left, text_left}
use Rattle.icu_element_reading.proofs.steady_elements.RunDigitLemmas.{run_digit_read, run_over}
use Rattle.icu_element_reading.proofs.steady_elements.SteadyStepLemmas.{amid_run}
use Rattle.icu_element_reading.proofs.steady_elements.steady_elements.SteadyElements.go_on_run.Goals as goal

pub returns-in_default-clause-elements : goal.returns-in_default-clause-elements
unfolding elements_left
returns-in_default-clause-elements g c =
    let reading : Reading = reading_of c.args.self.now.reading in
    let text : List ℕ = text_left g.X.TextForMatches.unread c.args.self.now in
    let ended = c.in_default.ensures in
    ap₂ (elements_after reading) ended.recent ended.unread
    ∙ sym (run_over reading c.args.lead c.args.self.now.place.recent text ended.run)
    ∙ sym (amid_run reading c.args.self.now.given (recent_chars c.args.self.now.place.recent) text c.args.lead c.requires.none c.requires.run)

pub returns-clause-elements : goal.returns-clause-elements
unfolding elements_left
returns-clause-elements g c =
    let reading : Reading = reading_of c.args.self.now.reading in
    let before : List ℕ = recent_chars c.args.self.now.place.recent in
    let text : List ℕ = text_left g.X.TextForMatches.unread c.args.self.now in
    c.read_number-self.ensures.elements
    ∙ run_digit_read reading c.in-Some.digit before text _ _ c.in-Some.ensures c.args.lead
    ∙ sym (amid_run reading c.args.self.now.given before text c.args.lead c.requires.none c.requires.run)
