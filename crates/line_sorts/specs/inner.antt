-- Words of private contracts and proofs only: no public contract names them.
pub mod Chunks
pub mod PlaceOrders
pub mod SettledPlaces
pub mod KeyedPlaces
