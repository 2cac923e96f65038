-- Words of private contracts and proofs only: no public contract names them.
pub mod Beginnings
pub mod ClassMarks
pub mod Joining
pub mod Mappings
pub mod MarkQueues
