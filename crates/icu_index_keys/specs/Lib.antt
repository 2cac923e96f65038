pub use Rattle.icu_order_levels.specs.ListOrder
pub use Rattle.icu_order_levels.specs.beginnings.KeyBeginnings
pub mod Borders
pub mod KeyedLists
pub mod inner
pub mod keyed_starts
