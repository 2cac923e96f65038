pub mod GivenMappings
pub mod TailoredJamo
pub mod TailoredDiacritics
pub mod inner
