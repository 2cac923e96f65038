pub mod ArrayTexts
pub mod inner
