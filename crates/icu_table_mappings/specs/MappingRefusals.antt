-- Why mappings have no entries.
use Rattle.std.specs.Prelude.{ℕ, ◌<◌, ◌≤◌, ◌^◌, ◌⊎◌, List, length}
use Rattle.icu_table_entries.specs.Elements.{Element}
use Rattle.icu_table_data.specs.Data.{Data}
use Rattle.icu_table_mappings.specs.declared.error.MappingEntriesError.{MappingEntriesError}
use Rattle.icu_table_mappings.specs.declared.error.MappingEntriesError.TheVariants.{NoMemory, FullTables, FewerElements}

-- what stands at an index is refused rightly: entries have no room for it
abbrev pub IsRefusalOfIndex : ℕ → MappingEntriesError → Type 0
IsRefusalOfIndex index FullTables = 2 ^ 19 ≤ index
IsRefusalOfIndex index FewerElements = ⊥
IsRefusalOfIndex index NoMemory = Unit {0}

-- elements are refused rightly: there are more than 31, or entries have no room for the index of a list of them
abbrev pub IsRefusalOfElements : Data → List Element → MappingEntriesError → Type 0
IsRefusalOfElements d es FullTables = (2 ^ 19 ≤ length d.elements) ⊎ (2 ^ 19 ≤ length d.entries)
IsRefusalOfElements d es FewerElements = 31 < length es
IsRefusalOfElements d es NoMemory = Unit {0}
