pub mod ReadingLemmas
pub mod KeywordLemmas
mod ListedWordLemmas
