pub mod ListedWords
pub mod WordsLeft
pub mod LocaleParts
pub mod CanonicalParts
pub mod FileNames
pub mod KnownLanguages
pub mod Resolutions
