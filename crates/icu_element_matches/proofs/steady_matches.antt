pub mod BegunLemmas
pub mod LongestLemmas
pub mod SteadyMarkLemmas
