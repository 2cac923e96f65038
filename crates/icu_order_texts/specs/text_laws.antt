pub mod OrderLaws
pub mod NumberTexts
pub mod NumberTextLaws
pub mod IdenticalLaws
pub mod RunLengthLaws
pub mod KeyBytesLaws
