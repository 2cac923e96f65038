use Rattle.icu_index_store.proofs.stored_rows.RekeyedNames.{names_rekeyed}
use Rattle.icu_index_store.proofs.stored_rows.names_are_rekeyed.Goals as goal

pub returns : goal.returns
returns g c = names_rekeyed g.S.Store
