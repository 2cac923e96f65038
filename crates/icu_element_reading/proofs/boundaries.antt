pub mod NfdLemmas
pub mod AloneLemmas
pub mod MatchCuts
pub mod StepCuts
pub mod CutLemmas
pub mod LeftContextLemmas
pub mod NumberRunLemmas
pub mod BaseLemmas
mod WorkedCuts
pub mod LetterLemmas
pub mod CutPartLemmas
pub mod PlainCharLemmas
