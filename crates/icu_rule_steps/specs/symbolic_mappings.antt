pub mod StoredMappings
pub mod KeptMappings
pub mod TouchedCharacters
pub mod inner
