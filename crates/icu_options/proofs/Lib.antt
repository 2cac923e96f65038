pub mod MergeLemmas
pub mod WorkedRows
