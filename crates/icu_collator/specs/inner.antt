-- Words of private contracts and proofs only: no public contract names them.
pub mod LevelWeights
pub mod SegmentsLeft
pub mod ElementOrders
pub mod FirstPrimaries
pub mod InStep
pub mod FactsInStep
pub mod BackwardInStep
pub mod KeyElements
pub mod KeyCharacters
pub mod ReadElements
