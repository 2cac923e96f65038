pub mod SiblingPlaces
pub mod SiblingChanges
pub mod TailoredSiblings
pub mod LinkStops
pub mod LinkedOrders
