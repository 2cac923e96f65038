pub mod EndLemmas
pub mod WritingLemmas
