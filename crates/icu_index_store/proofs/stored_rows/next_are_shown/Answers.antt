use Rattle.sqlite.specs.Held.{state}
use Rattle.icu_index_store.proofs.stored_rows.NextRows.{next_shown}
use Rattle.icu_index_store.proofs.stored_rows.next_are_shown.Goals as goal

pub returns : goal.returns
returns g c = λ behind most old new. next_shown behind most (state g.S.Store old) (state g.S.Store new)
