pub use Rattle.icu_order_levels.specs.beginnings.KeyBeginnings
pub mod TextBeginnings
pub mod TextBeginningLaws
