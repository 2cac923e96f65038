pub mod SpecialLemmas
mod WorkedTables
pub mod MetadataLemmas
pub mod ReachedRangeLemmas
