pub mod DigitCharLemmas
mod TableLemmas
mod DigitEntryLemmas
mod FewLemmas
mod PlainLemmas
pub mod OwnLemmas
mod CharWordLemmas
mod LoneLemmas
pub mod KeptLemmas
mod OwnFactsLemmas
pub mod SyllableLemmas
pub mod KeptBaseLemmas
mod FollowerLemmas
pub mod JoinedPairLemmas
