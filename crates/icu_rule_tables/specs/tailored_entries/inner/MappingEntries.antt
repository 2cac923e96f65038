-- Entries of the mappings of a character while they are put together.
use Rattle.std.specs.Prelude.{ℕ, List, filter, Option, Some, None}
use Rattle.icu_table_data.specs.Data.{Data}
use Rattle.icu_table_mappings.specs.Surroundings.{PutsEntryBetween, Surroundings, entry_between}
use Rattle.icu_rule_meaning.specs.TailoredMappings.{SymbolicMapping, mapping_with, stands_after_prefix}
use Rattle.icu_rule_weights.specs.declared.tailoring_numbers.tailoring_numbers.TailoringNumbers.{TailoringNumbers}
use Rattle.icu_rule_tables.specs.tailored_entries.GivenMappings.{IsMappingEntry}

-- there is a mapping and its entry, or neither
abbrev pub IsEntryOfMaybe : TailoringNumbers → Data → ℕ → Option SymbolicMapping → Option ℕ → Type 0
IsEntryOfMaybe t d c None None = Unit {0}
IsEntryOfMaybe t d c None (Some e) = ⊥
IsEntryOfMaybe t d c (Some m) None = ⊥
IsEntryOfMaybe t d c (Some m) (Some e) = IsMappingEntry t d c m e

-- behind each prefix and before each suffix stands the entry of the first mapping of these, and nothing where there is
-- none
abbrev pub HasEntriesOf : TailoringNumbers → Data → ℕ → List SymbolicMapping → Surroundings → Type 0
HasEntriesOf t d c mappings all = (before after : List ℕ)
    → IsEntryOfMaybe t d c (mapping_with (filter (stands_after_prefix before) mappings) after) (entry_between all before after)

-- the entry of a mapping is put behind its prefix and before its suffix
pub record PutsEntryOf (t : TailoringNumbers) (d : Data) (c : ℕ) (m : SymbolicMapping) (old new : Surroundings) : Type 0 where
  pub entry : ℕ
  pub is_entry : IsMappingEntry t d c m entry
  pub puts : PutsEntryBetween old new m.prefix m.suffix entry
