pub mod StatementTexts
pub mod StoredNames
