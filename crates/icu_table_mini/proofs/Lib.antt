pub mod CharacterLemmas
pub mod WeightRunLemmas
mod WorkedRows
