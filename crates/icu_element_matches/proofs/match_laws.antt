pub mod MatchEndLemmas
