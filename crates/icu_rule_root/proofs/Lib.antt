mod KeyPlaceLemmas
mod WindowLemmas
mod KeyCollectionLemmas
pub mod RootEntryLemmas
mod RootWeightLemmas
mod LevelListLemmas
