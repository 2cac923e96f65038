pub mod StoredListings
