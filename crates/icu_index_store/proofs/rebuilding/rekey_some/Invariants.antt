use Rattle.std.proofs.Common.{◌≡◌, IsTrue}
use Rattle.icu_index_store.proofs.stored_rows.RenewalLemmas.{RenewsSome}
use Rattle.sqlite.specs.Held.{state}
use Rattle.sqlite.specs.State.{HasCleanDisk, KeepsCommit, Survives}
use Rattle.icu_collator.specs.Collators.{collation_borrowed}
use Rattle.icu_index_store.specs.StoreLaws.{stored_key}
use Rattle.icu_index_store.proofs.rebuilding.rekey_some.Given as goal

abbrev pub invariant-loop-row : goal.invariant-loop-row
invariant-loop-row g l =
    let old = state g.S.Store l.fn.transaction.conn.now in
    let now = state g.S.Store l.transaction.conn.now in
    (l.transaction.conn.ghost_name ≡ l.fn.transaction.conn.ghost_name) × Survives old now (λ _. ⊥) × (HasCleanDisk now → IsTrue old.in_transaction → KeepsCommit old now)
    × (HasCleanDisk now → IsTrue old.in_transaction
    → RenewsSome g.S.Store (stored_key (collation_borrowed l.collator)) l.behind 256 l.row-items l.fn.transaction.conn.now l.transaction.conn.now l.row-index l.last)
