use Rattle.std.proofs.Common.{ℕ, List, [], ◌∷◌, ◌++◌, sym, ap, ap₂, ◌∙◌}
use Rattle.icu_table_entries.specs.Elements.{Element}
use Rattle.icu_element_reading.specs.LastChars.{recent_chars}
use Rattle.icu_element_reading.specs.Reading.{reading_of}
use Rattle.icu_element_reading.specs.TextElements.{Reading, number_elements, elements_after}
use Rattle.icu_element_reading.specs.steady_elements.inner.RunDigits.{run_elements}
use Rattle.icu_element_reading.proofs.steady_elements.SteadyStepLemmas.{lone_number, begun_run}
use Rattle.icu_element_reading.proofs.steady_elements.steady_step.read_digits_from.Goals as goal

pub returns-then-stands_alone-clause-elements : goal.returns-then-stands_alone-clause-elements
returns-then-stands_alone-clause-elements g c =
    let reading : Reading = reading_of c.args.reading in
    let now : List ℕ = recent_chars c.push_with.new.self in
    ap₂ (λ (es : List Element) (t : List ℕ). es ++ elements_after reading now t)
    (c.lone_digit-given.ensures ∙ ap (λ d. number_elements c.args.lead (d ∷ [])) c.decimal_digit-digit.ensures.value) c.if-stands_alone.ensures.unread
    ∙ lone_number reading c.args.lead c.args.c c.args.matched.now.ce32 (recent_chars c.args.at.now.recent) now c.args.matched.now.suffix.now
    (g.X.TextForMatches.unread c.args.at.now.text) (sym c.if-stands_alone.ensures.alone) c.push_with.ensures

pub returns-clause-elements : goal.returns-clause-elements
returns-clause-elements g c =
    let reading : Reading = reading_of c.args.reading in
    let now : List ℕ = recent_chars c.push_with.new.self in
    c.read_number-given.ensures.elements
    ∙ ap₂ (λ (d : ℕ) (t : List ℕ). run_elements reading c.args.lead (d ∷ []) now t) c.decimal_digit-digit.ensures.value c.if-stands_alone.ensures.unread
    ∙ begun_run reading c.args.lead c.args.c c.args.matched.now.ce32 (recent_chars c.args.at.now.recent) now c.args.matched.now.suffix.now
    (g.X.TextForMatches.unread c.args.at.now.text) (sym c.if-stands_alone.ensures.alone) c.push_with.ensures
