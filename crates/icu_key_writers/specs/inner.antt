-- Words of private contracts, proofs and tests only: no public contract names them.
pub mod SliceSinkLaws
