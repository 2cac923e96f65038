pub mod SteadyElements
pub mod inner
