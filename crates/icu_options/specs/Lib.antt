pub mod Settings
pub mod FlaggedSettings
pub mod Conversions
pub mod Metadata
pub mod Merge
