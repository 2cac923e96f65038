pub mod PairLemmas
pub mod DigitRunLemmas
