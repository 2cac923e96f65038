pub mod TextIndices
