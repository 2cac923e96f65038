pub mod FewNumberLemmas
