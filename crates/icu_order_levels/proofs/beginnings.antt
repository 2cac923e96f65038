pub mod ListBeginningLemmas
pub mod AboveLemmas
pub mod StepwiseBeginnings
