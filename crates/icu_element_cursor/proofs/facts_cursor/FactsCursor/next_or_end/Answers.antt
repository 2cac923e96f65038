use Rattle.std.proofs.Common.{rules, ◌≡◌, ◌++◌, List, ap, refl, ◌∙◌}
use Rattle.unicode_normalization.specs.Forms.{nfd}
use Rattle.icu_table_entries.specs.Elements.{Element}
use Rattle.icu_element_reading.specs.TextElements.{elements_after}
use Rattle.icu_element_cursor.specs.inner.Ready.{elements_ready}
use Rattle.icu_element_cursor.specs.Cursors.{cursor_reading}
use Rattle.icu_element_cursor.specs.FactsCursors.{facts_give}
use Rattle.icu_element_cursor.proofs.CursorLemmas.{ready_goes_on, nothing_goes_on, given_same}
use Rattle.icu_element_cursor.proofs.facts_cursor.FactsCursor.next_or_end.Goals as goal

pub returns-in-Some : goal.returns-in-Some
unfolding facts_give
returns-in-Some g c =
    ready_goes_on (cursor_reading c.args.self.now.tables.now) (g.T.EncodedText.text c.args.self.now.text) _ _ _ (search rules)

pub returns-in-Some-split_first_char : goal.returns-in-Some-split_first_char
unfolding facts_give
returns-in-Some-split_first_char g c =
    let old = c.args.self.now in
    let same : elements_ready old.ready ≡ elements_ready c.take_first.new.self = search rules in
    given_same g.T.EncodedText.text old (record old { ready = c.take_first.new.self }) c.first_of.new.self c.first_of.result refl
    (λ before. ap (λ (es : List Element). es ++ elements_after (cursor_reading old.tables.now) before (nfd (g.T.EncodedText.text old.text))) same)
    c.first_of.ensures

pub returns-in-None : goal.returns-in-None
unfolding facts_give
returns-in-None g c =
    let same : elements_ready c.args.self.now.ready ≡ elements_ready c.take_first.new.self = search rules in
    nothing_goes_on (cursor_reading c.args.self.now.tables.now) _ (g.T.EncodedText.text c.args.self.now.text) (same ∙ c.in_default.ensures.end refl) c.in-None.ensures
