pub mod LanguageErrors
