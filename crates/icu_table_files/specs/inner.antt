-- Words of private contracts and proofs only: no public contract names them.
pub mod Spelt
pub mod Lists
pub mod Vectors
pub mod FileRefusals
pub mod CheckedFiles
pub mod ReadRefusals
