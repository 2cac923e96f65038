pub mod MappingEntryLemmas
pub mod BegunSuffixLemmas
pub mod NearestMappingLemmas
pub mod TailoredCharacterLemmas
pub mod JamoTableLemmas
pub mod OwnDiacriticLemmas
