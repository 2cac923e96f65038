pub use Rattle.icu_collator.specs.Collators
pub use Rattle.icu_text_encodings.specs.DecodedTexts
pub use Rattle.icu_order_texts.specs.text_beginnings.TextBeginnings
pub mod HeadingLists
pub mod HeadingLaws
pub mod Headed
pub mod inner
