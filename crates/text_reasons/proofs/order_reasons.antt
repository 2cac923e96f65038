pub mod CaseSettingLemmas
