use Rattle.icu_index_store.proofs.stored_rows.RanStatements.{steps_leave}
use Rattle.icu_index_store.proofs.stored_rows.steps_leave_names.Goals as goal

pub returns : goal.returns
returns g c = steps_leave g.S.Store
