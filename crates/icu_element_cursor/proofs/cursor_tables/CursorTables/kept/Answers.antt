use Rattle.std.proofs.Math.Logic.{∥∥₁_elim}
use Rattle.icu_element_cursor.specs.Cursors.{cursor_reading}
use Rattle.icu_element_cursor.proofs.KeptServesLemmas.{kept_serves, KeptServes-prop}
use Rattle.icu_element_cursor.proofs.cursor_tables.CursorTables.kept.Goals as goal

pub returns : goal.returns
unfolding cursor_reading
returns c =
    let reading = cursor_reading c.args.self.now in
    let kept = c.get.result in
    ∥∥₁_elim c.args.self.now.facts_by (KeptServes-prop reading c.args.c kept) (λ are. kept_serves reading c.args.c kept (c.get.ensures.known reading are))
