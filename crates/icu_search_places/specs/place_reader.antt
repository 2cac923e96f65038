pub mod PlaceReaders
pub mod PlaceMarks
pub mod inner
