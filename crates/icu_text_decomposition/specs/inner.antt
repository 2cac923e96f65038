-- Words that only private contracts and proofs use.
pub mod BeginningMarks
pub mod CharParts
pub mod ClassNumbers
pub mod ClassPlaces
pub mod FrontMarks
pub mod MarksLeft
pub mod OrderedParts
pub mod Parts
pub mod Passes
pub mod RunTexts
pub mod SlotTrees
pub mod Taking
