pub use Rattle.line_commands.specs.field_sorts.FieldOrders
pub use Rattle.line_commands.specs.Disorders
pub mod FieldDisorders
