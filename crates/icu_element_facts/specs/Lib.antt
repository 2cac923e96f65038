pub mod FewElements
pub mod Followers
pub mod KeptFacts
pub mod KeptChars
pub mod CharWords
pub mod KeptPairs
pub mod FactsTables
pub mod inner
