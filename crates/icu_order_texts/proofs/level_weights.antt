pub mod CommonLengthLemmas
pub mod MeetingLemmas
pub mod WeighedLemmas
pub mod BearingLemmas
