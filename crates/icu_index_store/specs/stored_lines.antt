pub mod NameLines
