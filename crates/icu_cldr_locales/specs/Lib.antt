pub mod Subtags
pub mod LanguageTags
pub mod Keywords
pub mod locale_rules
pub mod resolution
