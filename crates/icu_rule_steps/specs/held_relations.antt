pub mod HeldRelations
pub mod inner
