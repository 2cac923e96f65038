pub mod RecordCutLemmas
