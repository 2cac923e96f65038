use Rattle.icu_element_cursor.specs.Cursors.{cursor_reading}
use Rattle.icu_element_reading.proofs.boundaries.CutPartLemmas.{may_be_cut}
use Rattle.icu_element_cursor.proofs.cursor_tables.CursorTables.has_boundary_before.Goals as goal

pub returns-in-Nothing : goal.returns-in-Nothing
unfolding cursor_reading
returns-in-Nothing c = λ boundary.
    may_be_cut (cursor_reading c.args.self.now) c.args.c (c.has_boundary_before.ensures boundary)
