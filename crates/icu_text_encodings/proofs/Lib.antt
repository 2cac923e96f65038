pub mod UnitCutLemmas
pub mod Latin1Lemmas
pub mod ReadBackLemmas
pub mod SpellLemmas
pub mod Utf16Lemmas
pub mod Utf8Lemmas
mod WordLemmas
