pub mod AlikeCharacterLemmas
pub mod BearingPartLemmas
pub mod LineLemmas
