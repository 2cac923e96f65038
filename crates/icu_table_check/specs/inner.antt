-- Words of private contracts and proofs only: no public contract names them.
pub mod ComparedWeights
pub mod ListedWeights
pub mod PairViolations
pub mod Checks
pub mod EntryViolations
pub mod ComparedLevels
pub mod ImplicitOverlaps
pub mod Violations
pub mod ConditionGroups
