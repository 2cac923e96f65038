pub mod Overlaps
pub mod Alike
pub mod WeightSets
pub mod inner
