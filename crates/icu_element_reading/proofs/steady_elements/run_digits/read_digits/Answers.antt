use Rattle.std.proofs.Common.{ℕ, List, [], ◌∷◌, ◌++◌, ap, ◌∙◌, arith}
use Rattle.icu_element_reading.specs.LastChars.{recent_chars}
use Rattle.icu_element_reading.specs.Reading.{reading_of}
use Rattle.icu_element_reading.specs.TextElements.{Reading}
use Rattle.icu_element_reading.specs.steady_elements.inner.RunDigits.{room_digits, started_elements}
use Rattle.icu_element_reading.proofs.steady_elements.RunDigitLemmas.{zeros_dropped, number_digit_read, fewer_chars}
use Rattle.icu_element_reading.proofs.steady_elements.run_digits.read_digits.Goals as goal

pub run-preserved : goal.run-preserved
run-preserved g c =
    let reading : Reading = reading_of c.args.reading in
    let before : List ℕ = recent_chars c.run.at.recent in
    let text : List ℕ = g.X.TextForMatches.unread c.run.at.text in
    let before_now : List ℕ = recent_chars c.take_digit.new.at.recent in
    let text_now : List ℕ = g.X.TextForMatches.unread c.take_digit.new.at.text in
    let digits : List ℕ = room_digits c.run.digits in
    let fewer = fewer_chars reading c.in-Some.digit before text before_now text_now c.in-Some.ensures in
    record {
      elements =
          ap (λ ds. started_elements reading c.args.lead ds before_now text_now) c.push-in-run.ensures
          ∙ zeros_dropped reading c.args.lead (digits ++ c.in-Some.digit ∷ []) before_now text_now
          ∙ number_digit_read reading c.in-Some.digit before text before_now text_now c.in-Some.ensures c.args.lead digits
          ∙ c.run.invariant.elements;
      fewer = omega (arith, fewer, c.run.invariant.fewer);
    }
