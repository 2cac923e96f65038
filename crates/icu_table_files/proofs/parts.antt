pub mod SpeltNumberLemmas
pub mod SpeltCharLemmas
pub mod SpeltPartLemmas
pub mod FrameLemmas
