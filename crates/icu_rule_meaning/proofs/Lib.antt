mod ComputedRules
mod SmallRoot
mod WorkedDifferences
mod WorkedTailorings
pub mod KeptRootLemmas
pub mod TreeLemmas
pub mod EachElementLemmas
pub mod WholeElements
pub mod WholeStates
pub mod RelationLemmas
pub mod BetweenLemmas
pub mod ExtensionLemmas
pub mod AscendingLemmas
