use Rattle.std.proofs.Common.{ap, ◌∙◌}
use Rattle.unicode_normalization.specs.Forms.{nfd}
use Rattle.icu_element_reading.specs.TextElements.{elements_after}
use Rattle.icu_element_cursor.specs.Cursors.{cursor_reading, gives_with}
use Rattle.icu_element_cursor.proofs.CursorLemmas.{nothing_ready}
use Rattle.icu_element_cursor.proofs.cursor.ElementCursor+T.new.Goals as goal

pub returns : goal.returns
unfolding gives_with
returns g c =
    nothing_ready _ _ c.none.ensures
    ∙ ap (λ b. elements_after (cursor_reading c.args.tables.now) b (nfd (g.T.EncodedText.text c.args.text))) c.new.ensures
