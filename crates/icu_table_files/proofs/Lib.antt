pub mod ContextNumberLemmas
pub mod PushLemmas
pub mod RefusalLemmas
pub mod TellingLemmas
pub mod FileLemmas
pub mod WrittenLemmas
pub mod FileReadLemmas
