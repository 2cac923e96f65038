pub mod TextOrderLemmas
pub mod EquivalentLemmas
pub mod StrengthLemmas
pub mod IdenticalLemmas
pub mod DigitTextLemmas
pub mod NumberTextLemmas
pub mod RunLengthLemmas
mod WorkedLaws
