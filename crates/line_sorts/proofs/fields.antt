pub mod JoinedKeyLemmas
pub mod PassingLemmas
