pub mod SpanListLemmas
pub mod LeastLemmas
pub mod ApartLemmas
pub mod FoundEndLemmas
pub mod StepEndLemmas
pub mod ComputedSearches
mod WorkedSearches
pub mod RestLemmas
pub mod SearchPartLemmas
pub mod FoundLemmas
pub mod SearchCutLemmas
pub mod SearchPieceLemmas
pub mod SelectionLemmas
pub mod DecompositionTails
pub mod LeaderSplits
pub mod EquivalentTextLemmas
pub mod LevelWalkLemmas
