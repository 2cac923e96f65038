-- What is reachable in each table of a collator: pairs of a character and an entry, and elements.
use Rattle.std.specs.Prelude.{ℕ, ◌≡◌, ◌<◌, false, List, length, slice_index}
use Rattle.std.specs.List.{Contains}
use Rattle.icu_table_entries.specs.declared.error.DataTable.{DataTable}
use Rattle.icu_table_entries.specs.declared.error.DataTable.TheVariants.{Root, Jamo, Tailoring, Diacritics}
use Rattle.icu_table_entries.specs.Elements.{Element, of_secondary}
use Rattle.icu_table_data.specs.Data.{Data, homed}
use Rattle.icu_table_provider.specs.Tables.{Tables}
use Rattle.icu_table_data.specs.Final.{final_elements}
use Rattle.icu_table_provider.specs.Diacritics.{is_replaced_index}
use Rattle.icu_table_provider.specs.ReachableTables.{IsReachableInRoot, IsReachableInJamo, IsReachableInTailoring}

-- the entry, whose lists stand in this home, is reachable with the character by a table
abbrev pub IsReachableBy : DataTable → Tables → Data → ℕ → ℕ → Type 0
IsReachableBy Root tables home c e = IsReachableInRoot tables home c e
IsReachableBy Jamo tables home c e = IsReachableInJamo tables home c e
IsReachableBy Tailoring tables home c e = IsReachableInTailoring tables home c e
IsReachableBy _ tables home c e = ⊥

-- one of the elements of such an entry
pub record IsOfEntryBy (table : DataTable) (tables : Tables) (x : Element) : Type 0 where
  pub home : Data
  pub char : ℕ
  pub entry : ℕ
  pub reachable : IsReachableBy table tables home char entry
  pub member : Contains (final_elements (homed home entry) char) x

-- the element of a diacritic that decomposed texts have
pub record IsOfReachableDiacritic (secondaries : List ℕ) (x : Element) : Type 0 where
  pub place : ℕ
  pub inside : place < length secondaries
  pub kept : is_replaced_index place ≡ false
  pub is : x ≡ of_secondary (slice_index secondaries place)

-- the element is reachable by a table
abbrev pub IsElementBy : DataTable → Tables → Element → Type 0
IsElementBy Diacritics tables x = IsOfReachableDiacritic tables.diacritics x
IsElementBy table tables x = IsOfEntryBy table tables x
