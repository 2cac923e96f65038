pub mod MarkClasses
pub mod MatchableTexts
pub mod UnreadTexts
pub mod inner
pub mod short_text
