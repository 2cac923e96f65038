use Rattle.std.proofs.Common.{List, ◌∷◌, Some, ap, sym, ◌∙◌}
use Rattle.icu_table_entries.specs.Elements.{Element}
use Rattle.icu_element_cursor.specs.Cursors.{cursor_reading}
use Rattle.icu_element_cursor.specs.FactsCursors.{facts_give}
use Rattle.icu_element_cursor.proofs.CursorLemmas.{facts_goes_on}
use Rattle.icu_element_cursor.proofs.facts_cursor.FactsCursor.read_own.Goals as goal

pub returns-in-Some : goal.returns-in-Some
unfolding facts_give
returns-in-Some g c =
    let rest = g.T.EncodedText.text c.args.rest in
    let e = c.in-Some.element in
    facts_goes_on (cursor_reading c.args.self.now.tables.now) _ _ c.args.c _ _ rest (Some e)
    c.requires.nothing c.requires.text (c.requires.own.stands rest) (c.in-Some.ensures ∙ ap (λ (es : List Element). e ∷ es) (sym c.requires.nothing))
