-- What only this crate speaks of.
pub mod WeighedTexts
