pub mod StartKeyLemmas
pub mod HeadingRuns
pub mod HeadingBounds
