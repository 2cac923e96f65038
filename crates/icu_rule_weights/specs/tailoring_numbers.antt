pub mod Numberings
pub mod RootNeighbours
pub mod inner
pub mod NumberedElements
