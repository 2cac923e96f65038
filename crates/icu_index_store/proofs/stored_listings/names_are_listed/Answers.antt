use Rattle.icu_index_store.proofs.stored_listings.CollationListings.{names_listed}
use Rattle.icu_index_store.proofs.stored_listings.names_are_listed.Goals as goal

pub returns : goal.returns
returns g c = names_listed g.S.Store
