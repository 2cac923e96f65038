pub use Rattle.icu_search_places.specs.SearchPlaces
pub mod ShownElements
pub mod Explanations
pub mod BearingParts
pub mod DecidingParts
pub mod inner
pub mod order_reasons
