pub mod SaidMappings
pub mod TailoredTexts
