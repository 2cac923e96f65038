pub mod KeyLemmas
pub mod LevelLemmas
pub mod OrdersInTurn
pub mod SegmentLemmas
pub mod InStepLemmas
mod KeyCharacterLemmas
mod PlainCharacterLemmas
mod FirstPrimaryLemmas
mod TieLemmas
pub mod OtherSettings
pub mod FactsInStepLemmas
pub mod BackwardInStepLemmas
mod TotalOrder
pub mod NameOrderLemmas
