pub mod SurroundingLemmas
pub mod AddedContextLemmas
pub mod GrownListLemmas
pub mod PutEntryLemmas
pub mod NearestLemmas
pub mod PrefixLemmas
pub mod DecimalDigitLemmas
pub mod SpeltElementLemmas
