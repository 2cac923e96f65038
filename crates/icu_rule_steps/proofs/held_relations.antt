mod SameElements
pub mod RelatedLemmas
mod PrefixErrors
mod HeldStringLemmas
