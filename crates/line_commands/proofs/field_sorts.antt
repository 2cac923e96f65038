pub mod FieldSortLemmas
