pub mod CompiledFiles
pub mod WrittenFiles
