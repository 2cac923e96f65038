-- Tables whose lists grow while they are put together.
use Rattle.std.specs.Prelude.{◌≡◌, ℕ, List, ◌++◌}
use Rattle.icu_table_entries.specs.Elements.{Element}
use Rattle.icu_table_data.specs.Data.{Context, Data}

-- a table with more elements, entries and contexts than another one, and what that has
pub record HasMoreLists (d e : Data) : Type 0 where
  pub more_elements : List Element
  pub more_entries : List ℕ
  pub more_contexts : List Context
  pub elements : e.elements ≡ d.elements ++ more_elements
  pub entries : e.entries ≡ d.entries ++ more_entries
  pub contexts : e.contexts ≡ d.contexts ++ more_contexts

-- such a table whose characters have the same entries
pub record Extends (d e : Data) : Type 0 where
  pub lists : HasMoreLists d e
  pub value : e.value ≡ d.value
