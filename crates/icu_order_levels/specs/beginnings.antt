pub mod KeyBeginnings
pub mod BeginningLaws
