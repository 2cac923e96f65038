pub mod RuleTexts
pub mod RelatedTexts
pub mod mapped_texts
pub mod tailored_texts
pub mod apart_elements
pub mod related_texts
