use Rattle.std.proofs.Common.{ap, ◌∙◌}
use Rattle.icu_element_reading.specs.LastChars.{recent_chars}
use Rattle.icu_element_reading.specs.TextElements.{elements_after}
use Rattle.icu_element_reading.proofs.StepLemmas.{elements_after_nil}
use Rattle.icu_element_cursor.proofs.short_piece.begin_short.Goals as goal

pub returns-in-None-clause-none : goal.returns-in-None-clause-none
returns-in-None-clause-none g c = λ _.
    c.restart-in-None.ensures ∙ ap (elements_after _ (recent_chars c.new.result)) c.clear.ensures ∙ elements_after_nil _ (recent_chars c.new.result)
