pub mod Answers
pub mod CollateLines
pub mod MiniErrors
pub mod MiniRuns
