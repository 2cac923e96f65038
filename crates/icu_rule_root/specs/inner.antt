-- Words of private contracts and proofs only: no public contract names them.
pub mod LedEntries
pub mod KeyWindows
pub mod KeyPlaces
pub mod KeyCollections
pub mod LevelLists
