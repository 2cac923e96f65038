pub mod LineFields
pub mod NumberKeys
pub mod JoinedKeys
pub mod ShownParts
