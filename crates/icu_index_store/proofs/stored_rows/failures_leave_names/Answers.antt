use Rattle.sqlite.specs.Held.{state}
use Rattle.icu_index_store.proofs.stored_rows.RanStatements.{failure_leaves}
use Rattle.icu_index_store.proofs.stored_rows.failures_leave_names.Goals as goal

pub returns : goal.returns
returns g c = λ text params old new. failure_leaves text params (state g.S.Store old) (state g.S.Store new)
