-- Words of private contracts and proofs, and what the visitors that are public add up to.
pub mod Visitors
pub mod BlockWalks
pub mod VisitedEntries
