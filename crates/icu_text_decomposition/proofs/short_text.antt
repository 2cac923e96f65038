pub mod CharRoomLemmas
pub mod PartOrderLemmas
