pub mod ReadOnLemmas
pub mod GatheredLemmas
pub mod PlaceLemmas
pub mod PlaceMarkLemmas
