mod SiblingLemmas
mod ParentOrderLemmas
mod ListedTreeLemmas
mod TreeLoopLemmas
pub mod CountingLemmas
mod RuleStateLemmas
mod PositionLemmas
mod BegunParentLemmas
mod LinkStopLemmas
mod LinkLemmas
mod LinkingLemmas
mod LinkWalkLemmas
