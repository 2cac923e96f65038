-- Words of private contracts and proofs only: no public contract names them.
pub mod EqualParts
pub mod PartLevels
pub mod PartOutcomes
pub mod OnePrimaries
pub mod FirstWeights
pub mod SearchCuts
pub mod SilentStarts
pub mod SilentTexts
pub mod AsciiMarks
pub mod CountedChars
pub mod BarrenParts
pub mod TextRuns
pub mod WeightsBehind
