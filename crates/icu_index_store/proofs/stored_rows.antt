pub mod TransactionLemmas
mod NumberedListLemmas
mod ValueLemmas
mod StatementMeanings
mod InsertedRows
mod RemovedRows
mod ListedRows
mod PrintedRows
mod RekeyedRows
mod RanStatements
mod NextRows
mod RekeyedNames
mod RenewedNames
pub mod RenewalLemmas
pub mod ShownPrints
mod MadeTables
pub mod ListingLemmas
