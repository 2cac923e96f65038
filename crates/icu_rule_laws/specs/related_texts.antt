pub mod PlainOrders
pub mod RelationOrders
pub mod SwedishLetters
