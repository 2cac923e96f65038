pub mod LineNameLemmas
pub mod KeyFrontLemmas
pub mod SortedInputLemmas
pub mod PrintLemmas
