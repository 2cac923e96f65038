pub mod PartLemmas
pub mod MarkCutLemmas
pub mod DigitLemmas
pub mod ReferenceLemmas
pub mod ContentLemmas
pub mod ColumnLemmas
pub mod NestLemmas
