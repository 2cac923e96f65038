pub mod BuiltTrees
pub mod TreeBuilders
pub mod RuleStates
pub mod inner
