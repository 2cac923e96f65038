pub mod MiniLemmas
pub mod SettingLemmas
pub mod CollatorErrorLemmas
