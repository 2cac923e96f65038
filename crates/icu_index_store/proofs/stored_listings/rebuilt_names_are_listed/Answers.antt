use Rattle.icu_index_store.proofs.stored_listings.CollationListings.{rebuilt_listed}
use Rattle.icu_index_store.proofs.stored_listings.rebuilt_names_are_listed.Goals as goal

pub returns : goal.returns
returns g c = rebuilt_listed g.S.Store
