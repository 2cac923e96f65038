pub mod SteadyNumbers
pub mod inner
