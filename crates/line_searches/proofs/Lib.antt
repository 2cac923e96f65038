pub mod JoinedMatchLemmas
pub mod NearLineLemmas
pub mod WantedLineLemmas
