pub mod UnitOffsets
pub mod IndexedTexts
pub mod OffsetSets
