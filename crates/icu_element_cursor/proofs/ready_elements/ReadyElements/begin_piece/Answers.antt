use Rattle.std.proofs.Common.{◌∷◌, refl}
use Rattle.icu_text_decomposition.specs.short_text.ArrayTexts.{array_unread}
use Rattle.icu_element_reading.specs.steady_elements.SteadyElements.{elements_left}
use Rattle.icu_element_cursor.specs.Cursors.{cursor_reading}
use Rattle.icu_element_cursor.specs.inner.ReadCharacters.{context_read}
use Rattle.icu_element_cursor.specs.inner.Ready.{elements_ready}
use Rattle.icu_element_cursor.proofs.ReadyLemmas.{both_empty}
use Rattle.icu_element_cursor.proofs.PieceLemmas.{begun_alone}
use Rattle.icu_element_cursor.proofs.ready_elements.ReadyElements.begin_piece.Goals as goal

pub invariant_of-self-in-None : goal.invariant_of-self-in-None
invariant_of-self-in-None g c =
    let nothing = c.in-None.ensures.none refl in
    record { no_piece = λ _. nothing; none_left = λ _. record { of_char = (both_empty _ _ c.requires).0; of_piece = nothing } }

pub returns-in-Some-clause-begun : goal.returns-in-Some-clause-begun
returns-in-Some-clause-begun g c =
    begun_alone (cursor_reading c.args.tables.now) (context_read c.args.before) (c.args.first ∷ g.T.EncodedText.text c.args.text) (g.T.EncodedText.text c.in-Some.rest)
    (elements_ready c.args.self.now.few) (elements_left array_unread c.begin_short.new.piece) (both_empty _ _ c.requires).0 c.in-Some.ensures.begun
