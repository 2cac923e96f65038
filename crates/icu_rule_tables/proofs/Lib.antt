mod RuleSettingLemmas
mod NoImportLemmas
mod TailoringLemmas
pub mod TailoredHalves
