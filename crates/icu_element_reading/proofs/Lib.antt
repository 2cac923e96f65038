mod WorkedReachable
mod WorkedTexts
pub mod AheadLemmas
pub mod CollationElementsLemmas
pub mod Computing
pub mod DecomposedLemmas
pub mod DecomposedSourceLemmas
pub mod ElementPartLemmas
pub mod ElementSourceLemmas
pub mod EnoughLemmas
pub mod HeldCharLemmas
pub mod LoneStepLemmas
pub mod MappingHeadLemmas
pub mod MatchedAloneLemmas
pub mod ReachableTextLemmas
pub mod ReadableLemmas
pub mod ReaderLemmas
pub mod ReadsAheadLemmas
pub mod StepLemmas
pub mod StepReaderLemmas
pub mod StreamLemmas
pub mod TakenDigitLemmas
pub mod WorkedReadings
