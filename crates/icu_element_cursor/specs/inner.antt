-- Words of private contracts and proofs only: no public contract names them.
pub mod ReadCharacters
pub mod Ready
pub mod AllReady
pub mod FirstChars
pub mod NumberElements
pub mod Pieces
pub mod MarkRuns
pub mod Standing
pub mod Unjoined
pub mod Composed
pub mod Unread
