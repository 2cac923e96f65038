use Rattle.icu_index_store.proofs.stored_rows.ListingLemmas.{changes_listed}
use Rattle.icu_index_store.proofs.stored_rows.changes_are_listed.Goals as goal

pub returns : goal.returns
returns g c = changes_listed g.S.Store
