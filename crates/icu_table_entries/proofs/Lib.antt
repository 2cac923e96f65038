pub mod OffsetLemmas
mod WorkedEntries
