pub use Rattle.icu_order_levels.specs.ListOrder
pub mod KeyOrders
pub mod Starts
