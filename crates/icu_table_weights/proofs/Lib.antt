pub mod WrittenWeightLemmas
pub mod BeginningLemmas
pub mod NeighbourLemmas
pub mod OverlapLemmas
pub mod AlikeLemmas
pub mod WeightSetLemmas
pub mod PageLemmas
pub mod TargetLemmas
