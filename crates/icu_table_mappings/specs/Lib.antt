pub mod Given
pub mod SpeltElements
pub mod Surroundings
pub mod GrownLists
pub mod DigitEntries
pub mod MappingRefusals
pub mod inner
