pub mod FoundMatches
pub mod HeldSessions
pub mod Openings
pub mod Statuses
pub mod TextBatches
pub mod WrittenBytes
