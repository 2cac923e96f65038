-- Words of private contracts and proofs only: no public contract names them.
pub mod ReadFacts
pub mod Syllables
pub mod OwnBlocks
pub mod WordBlocks
pub mod LoneEntries
pub mod LoneTables
pub mod JoinedPairs
