pub mod RootCollators
pub mod RuledCollators
pub mod compiled_tables
