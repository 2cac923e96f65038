pub mod DisorderStepLemmas
