use Rattle.sqlite.specs.Held.{state}
use Rattle.icu_index_store.proofs.stored_rows.RanStatements.{all_listed}
use Rattle.icu_index_store.proofs.stored_rows.all_are_listed.Goals as goal

pub returns : goal.returns
returns g c = λ old new. all_listed (state g.S.Store old) (state g.S.Store new)
