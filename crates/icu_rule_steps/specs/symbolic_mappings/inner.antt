-- Words of private contracts and proofs only: no public contract names them.
pub mod Tiers
pub mod ReadByMappings
pub mod TakenCases
pub mod PassedMarks
