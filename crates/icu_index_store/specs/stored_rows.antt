pub mod StoredSchemas
pub mod KeptNames
pub mod RowLaws
pub mod NameListings
pub mod Renewals
pub mod StoredPrints
