pub mod SpelledParts
pub mod XmlCharacters
pub mod CharacterReferences
pub mod XmlEvents
pub mod XmlMarkup
pub mod XmlDocuments
pub mod XmlErrors
