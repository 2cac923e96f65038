pub mod SizeLemmas
pub mod UnitOffsetLemmas
pub mod CopyLemmas
