-- The elements of its entry are those that it gives.
use Rattle.std.proofs.Common.{List, sym, subst}
use Rattle.icu_table_entries.specs.Elements.{Element}
use Rattle.icu_element_cursor.specs.Cursors.{cursor_reading}
use Rattle.icu_element_cursor.specs.inner.Standing.{StandsBefore}
use Rattle.icu_element_cursor.proofs.cursor.ElementCursor+T.read_own_elements.Goals as goal

pub read_few-requires-clause-stands : goal.read_few-requires-clause-stands
read_few-requires-clause-stands g c =
    let rest = g.T.EncodedText.text c.args.rest in
    subst (λ (es : List Element). StandsBefore (cursor_reading c.args.self.now.tables.now) c.args.c es rest) (sym c.in-Some.ensures) (c.requires.own.stands rest)
