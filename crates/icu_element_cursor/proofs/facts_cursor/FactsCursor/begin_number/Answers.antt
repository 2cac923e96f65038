-- A number goes on as its element and what follows it.
use Rattle.std.proofs.Common.{◌≡◌, ◌∷◌, [], List, ap₂, sym, refl}
use Rattle.icu_table_entries.specs.Elements.{Element, of_primary}
use Rattle.icu_element_cursor.specs.Cursors.{cursor_reading}
use Rattle.icu_element_cursor.specs.FactsCursors.{facts_give}
use Rattle.icu_element_cursor.specs.inner.Ready.{elements_ready}
use Rattle.icu_element_cursor.proofs.CursorLemmas.{number_read}
use Rattle.icu_element_cursor.proofs.facts_cursor.FactsCursor.begin_number.Goals as goal

pub returns : goal.returns
unfolding facts_give
returns g c = (
  refl,
  λ before.
      let text = g.T.EncodedText.text in
      let p = c.in_ok-weight in
      let first = c.new_from_primary.result in
      let left = elements_ready c.args.self.now.ready in
      let given : of_primary p.weight ∷ [] ≡ first ∷ left = ap₂ (λ (e : Element) (es : List Element). e ∷ es) (sym c.new_from_primary.ensures) (sym c.requires.nothing) in (
        before,
        number_read (cursor_reading c.args.self.now.tables.now) left before c.requires.nothing (text c.args.self.now.text) _ (text p.after)
            (of_primary p.weight ∷ []) (first ∷ []) left c.requires.text p.ensures given,
      ),
)
