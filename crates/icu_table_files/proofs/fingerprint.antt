pub mod WordHandings
pub mod WordForms
pub mod OneForm
