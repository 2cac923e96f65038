-- Words of private contracts and proofs only: no public contract names them.
pub mod LeadUses
pub mod RunGaps
pub mod FirstRuns
