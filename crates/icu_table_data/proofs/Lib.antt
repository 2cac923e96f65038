pub mod ListLemmas
pub mod CharLemmas
pub mod EntryLemmas
pub mod ElementLemmas
pub mod ContextLemmas
pub mod SameEntryLemmas
pub mod WalkLemmas
mod ReachLemmas
mod SpentLemmas
mod ClearLemmas
mod CharacterWalkLemmas
mod BlockWalkLemmas
mod VisitedLemmas
mod SoughtListLemmas
pub mod ViolationLemmas
pub mod CollectedWeightLemmas
pub mod BothLemmas
pub mod ImplicitLemmas
mod PlainElementLemmas
pub mod RunLemmas
mod OffsetRunLemmas
mod SpelledLemmas
mod WorkedData
