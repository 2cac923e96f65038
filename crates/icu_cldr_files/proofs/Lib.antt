pub mod ParentLemmas
pub mod TypeLemmas
