pub mod ReorderCodes
pub mod ScriptOrders
pub mod ReorderedSpans
pub mod inner
