-- Words of private contracts and proofs only: no public contract names them.
pub mod MappingEntries
pub mod TailoredSets
pub mod RootLists
pub mod OwnDiacritics
