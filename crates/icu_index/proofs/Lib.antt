pub mod NameLemmas
pub mod InsertionLemmas
