pub mod GapWeights
