pub mod CollationNames
pub mod LocaleRules
pub mod TagRules
