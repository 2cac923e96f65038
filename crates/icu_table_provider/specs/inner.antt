-- Words of private contracts and proofs only: no public contract names them.
pub mod ReachedRanges
pub mod NamedBlocks
