pub mod OwnedData
pub mod AddedContexts
pub mod Building
pub mod Blocks
pub mod inner
