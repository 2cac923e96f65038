mod StateLemmas
pub mod TouchedRuleLemmas
mod RuleLoopLemmas
mod ContractionEnds
mod CharacterCountLemmas
mod WeightMakerLemmas
