pub mod FingerprintForms
pub mod FormLaws
pub mod inner
