pub mod LeadUseLemmas
pub mod LevelGapLemmas
pub mod PrimaryGapLemmas
pub mod SiblingRunLemmas
pub mod NumberedRunLemmas
pub mod SiblingNumberLemmas
