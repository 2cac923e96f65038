pub mod GivenWords
pub mod Inputs
pub mod NamedErrors
pub mod PartialWrites
pub mod ProgramErrors
pub mod WatchedOutputs
