pub mod MappedTexts
pub mod RootTexts
