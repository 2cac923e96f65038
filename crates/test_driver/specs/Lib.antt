pub mod Readers
pub mod RequestedProvider
