use Rattle.std.proofs.Common.{◌≡◌}
use Rattle.sqlite.specs.Held.{state}
use Rattle.sqlite.specs.State.{HasCleanDisk, Survives}
use Rattle.icu_index_store.proofs.stored_lines.RowReading.{HasPrinted}
use Rattle.icu_index_store.proofs.stored_lines.push_rows.Given as goal

abbrev pub invariant-rows : goal.invariant-rows
invariant-rows g l =
    let old = state g.S.Store l.fn.rows.conn.now in
    let now = state g.S.Store l.rows.conn.now in
    (l.rows.conn.ghost_name ≡ l.fn.rows.conn.ghost_name) × Survives old now (λ _. ⊥)
    × (HasCleanDisk now → HasPrinted g.S.Store l.front l.fn.rows.conn.now l.rows.conn.now l.fn.text.items l.text.items l._at)
