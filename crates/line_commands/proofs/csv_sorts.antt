pub mod HeadLemmas
pub mod StopLemmas
pub mod DisorderLemmas
pub mod ErrorLemmas
pub mod SortedRecordLemmas
