pub mod RuleFaults
pub mod SymbolicTailorings
pub mod ReadRules
pub mod WeightMakers
pub mod symbolic_mappings
pub mod held_relations
