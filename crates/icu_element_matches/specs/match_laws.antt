pub mod MatchEnds
