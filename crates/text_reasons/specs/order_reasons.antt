pub use Rattle.text_reasons.specs.Explanations
pub use Rattle.icu_order_texts.specs.TextOrder
pub mod OrderLevels
pub mod Reasons
