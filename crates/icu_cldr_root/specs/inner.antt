-- Words of private contracts and proofs only: no public contract names them.
pub mod Diacritics
pub mod LineEntries
pub mod Taken
pub mod CompressedLeads
pub mod LeadWords
pub mod SpecialParts
pub mod IdeographValues
pub mod TakenCharacters
pub mod Digits
pub mod RootValues
pub mod Resolved
pub mod WeightedRanges
pub mod RangePlaces
pub mod RadicalParts
