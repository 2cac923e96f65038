pub mod DecodedTexts
pub mod EncodingLaws
pub mod inner
