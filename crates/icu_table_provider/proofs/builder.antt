mod AddedMappingLemmas
mod BlockLemmas
mod BuildingLemmas
