pub mod AsBox
pub mod BatchLemmas
pub mod SliceKeys
