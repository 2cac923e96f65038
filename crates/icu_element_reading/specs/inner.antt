-- Words of private contracts and proofs only: no public contract names them.
pub mod Readable
pub mod HeldChars
pub mod Iterating
pub mod ReadsAhead
pub mod Positions
pub mod TakenDigits
pub mod ReadyElements
pub mod Streams
pub mod StepsTaken
