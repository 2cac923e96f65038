pub mod SpeltParts
pub mod Refusals
pub mod OneReading
pub mod Frames
pub mod FrameErrors
