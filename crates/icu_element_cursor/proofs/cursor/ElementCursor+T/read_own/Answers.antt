use Rattle.icu_element_cursor.specs.Cursors.{cursor_reading, gives_with}
use Rattle.icu_element_cursor.proofs.CursorLemmas.{one_read}
use Rattle.icu_element_cursor.proofs.cursor.ElementCursor+T.read_own.Goals as goal

pub returns-in-Some-clause-next : goal.returns-in-Some-clause-next
unfolding gives_with
returns-in-Some-clause-next g c =
    let rest = g.T.EncodedText.text c.args.rest in
    one_read (cursor_reading c.args.self.now.tables.now) _ _ c.requires.nothing c.args.c _ _ rest _ c.in-Some.element
    c.requires.text (c.requires.own.stands rest) c.push.ensures c.in-Some.ensures
