pub mod IndexSets
pub mod WrittenLabels
pub mod TakenLabels
pub mod IndexLabels
