mod RuleTextLemmas
pub mod RelatedTextLemmas
pub mod FittingTextLemmas
