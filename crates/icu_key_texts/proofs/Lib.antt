pub mod KeyPartLemmas
pub mod KeySourceLemmas
pub mod CaseLemmas
pub mod CompressionLemmas
pub mod CommonElementLemmas
pub mod CommonRestLemmas
pub mod ThreeRestLemmas
