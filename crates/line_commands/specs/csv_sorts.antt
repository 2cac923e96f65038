pub mod ColumnOrders
pub mod CsvErrors
pub mod SortedRecords
pub mod ColumnDisorders
