pub mod LeadLemmas
pub mod NamedLemmas
