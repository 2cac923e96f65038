pub mod LongestBeginningLemmas
pub mod MappedMatchLemmas
pub mod MappedTextLemmas
pub mod LongestPrefixLemmas
pub mod DistinctLemmas
pub mod RootMappingLemmas
pub mod RootTextLemmas
