pub mod Collations
pub mod CheckedCollations
pub mod Handled
pub mod HandledSources
pub mod VariableWeightings
pub mod Levels
pub mod Forms
