-- What was worked out serves.
use Rattle.std.proofs.Math.Logic.{∥∥₁_elim}
use Rattle.icu_element_cursor.specs.Cursors.{cursor_reading}
use Rattle.icu_element_cursor.proofs.KeptServesLemmas.{serves, Serves-prop}
use Rattle.icu_element_cursor.proofs.cursor_tables.CursorTables.other_facts.Goals as goal

pub returns : goal.returns
unfolding cursor_reading
returns c =
    let reading = cursor_reading c.args.self.now in
    let facts = c.work_out.result in
    ∥∥₁_elim c.args.self.now.facts_by (Serves-prop reading c.args.c facts) (λ known. serves reading c.args.c facts (c.work_out.ensures known))
