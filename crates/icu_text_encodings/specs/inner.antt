-- Words that only private contracts and proofs use.
pub mod UnitCuts
pub mod ListBeginnings
pub mod Utf16Units
