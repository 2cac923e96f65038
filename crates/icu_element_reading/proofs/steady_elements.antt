pub mod NumberDigitLemmas
pub mod RunDigitLemmas
pub mod SteadyStepLemmas
