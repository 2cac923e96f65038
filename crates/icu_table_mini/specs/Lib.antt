pub mod Characters
pub mod Mini
pub mod Provider
pub mod ReorderingData
pub mod Variants
