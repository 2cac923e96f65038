pub use Rattle.icu_order_texts.specs.weighting.Handled
pub use Rattle.icu_order_texts.specs.weighting.Levels
pub mod LeastNumbers
pub mod Weighings
pub mod CommonWeights
