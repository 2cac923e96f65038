use Rattle.sqlite.specs.Held.{state}
use Rattle.icu_index_store.proofs.stored_rows.RanStatements.{range_listed}
use Rattle.icu_index_store.proofs.stored_rows.ranges_are_listed.Goals as goal

pub returns : goal.returns
returns g c = λ old new. range_listed (state g.S.Store old) (state g.S.Store new)
