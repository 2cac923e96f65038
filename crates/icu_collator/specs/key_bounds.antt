pub use Rattle.icu_collator.specs.Collators
pub use Rattle.icu_text_encodings.specs.DecodedTexts
pub use Rattle.icu_order_texts.specs.text_beginnings.TextBeginnings
