pub mod Elements
pub mod Entries
pub mod Weights
pub mod ElementConditions
pub mod EntryConditions
pub mod EncodedEntries
