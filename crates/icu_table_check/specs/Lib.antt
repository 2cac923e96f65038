pub mod TableParts
pub mod inner
pub mod small_tables
