pub mod UpperWeights
pub mod ApartElements
pub mod ApartElementLaws
