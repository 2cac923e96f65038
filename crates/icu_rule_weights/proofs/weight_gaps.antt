pub mod ByteLemmas
pub mod BegunGapLemmas
pub mod GapLemmas
