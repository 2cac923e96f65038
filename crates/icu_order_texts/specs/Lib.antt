-- What the order is defined by, handed on: the collation, variable weighting, the lists of the levels and their forms.
pub use Rattle.icu_order_texts.specs.weighting.Collations
pub use Rattle.icu_order_texts.specs.weighting.Handled
pub use Rattle.icu_order_texts.specs.weighting.Levels
pub use Rattle.icu_order_texts.specs.weighting.Forms
pub mod TextOrder
pub mod ReachableWeights
pub mod TextOrderLaws
pub mod TextCuts
pub mod weighting
pub mod level_weights
pub mod text_beginnings
pub mod text_laws
