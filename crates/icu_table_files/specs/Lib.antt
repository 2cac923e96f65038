pub mod FileContents
pub mod TableBytes
pub mod TableFiles
pub mod Origins
pub mod FileReading
pub mod inner
pub mod parts
pub mod fingerprint
