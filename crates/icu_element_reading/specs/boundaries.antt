pub use Rattle.icu_element_matches.specs.Matches
pub use Rattle.icu_element_reading.specs.TextElements
pub mod Alone
pub mod Cuts
pub mod LeftContexts
pub mod ReadingLaws
pub mod BoundaryTables
pub mod Places
