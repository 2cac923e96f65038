pub mod TextOffsets
pub mod Searchers
pub mod SearchedTexts
pub mod OverlappingMatches
pub mod MatchesLeft
pub mod inner
