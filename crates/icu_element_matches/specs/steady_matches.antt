pub mod SteadyMatches
pub mod inner
