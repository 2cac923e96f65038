-- Words that only private contracts and proofs use.
pub mod Stops
pub mod Asked
pub mod Sorting
