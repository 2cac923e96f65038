pub mod SmallElements
pub mod SmallEntries
pub mod SmallTableLemmas
pub mod BuiltLemmas
pub mod StoredLemmas
pub mod AcceptedLemmas
