pub mod TextBeginningLemmas
