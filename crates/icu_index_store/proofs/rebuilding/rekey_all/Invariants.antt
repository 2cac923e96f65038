use Rattle.std.proofs.Common.{◌≡◌, IsTrue, pos}
use Rattle.std.specs.Int.{int_gap}
use Rattle.icu_index_store.specs.stored_rows.Renewals.{HasRenewed}
use Rattle.sqlite.specs.Held.{state}
use Rattle.sqlite.specs.State.{HasCleanDisk, KeepsCommit, Survives}
use Rattle.icu_collator.specs.Collators.{collation_borrowed}
use Rattle.icu_index_store.specs.StoreLaws.{stored_key}
use Rattle.icu_index_store.proofs.rebuilding.rekey_all.Given as goal

abbrev pub invariant-chunks : goal.invariant-chunks
invariant-chunks g l =
    let old = state g.S.Store l.fn.transaction.conn.now in
    let now = state g.S.Store l.transaction.conn.now in
    (l.transaction.conn.ghost_name ≡ l.fn.transaction.conn.ghost_name) × Survives old now (λ _. ⊥) × (HasCleanDisk now → IsTrue old.in_transaction → KeepsCommit old now)
    × (HasCleanDisk now → IsTrue old.in_transaction
    → HasRenewed (stored_key (collation_borrowed l.collator)) g.S.Store l.behind l.fn.transaction.conn.now l.transaction.conn.now)

abbrev pub decreases-chunks : goal.decreases-chunks
decreases-chunks g l = int_gap l.behind (pos 9223372036854775807)
