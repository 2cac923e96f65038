use Rattle.icu_index_store.proofs.stored_rows.ListingLemmas.{rebuilds_listed}
use Rattle.icu_index_store.proofs.stored_rows.rebuilds_are_listed.Goals as goal

pub returns : goal.returns
returns g c = rebuilds_listed g.S.Store
