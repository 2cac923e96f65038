pub mod LineOrderByKeys
