-- The keys of elements, as they are collected.
use Rattle.std.specs.Prelude.{ℕ, ◌≡◌, ◌<◌, ◌+◌, ◌∷◌, ◌++◌, [], false, List, map, slice_index, if◌then◌else◌}
use Rattle.icu_table_entries.specs.Elements.{Element, of_secondary}
use Rattle.icu_table_data.specs.Data.{Data, homed}
use Rattle.icu_table_data.specs.Final.{final_elements}
use Rattle.icu_table_data.specs.CollectedWeights.{is_stated}
use Rattle.icu_table_data.specs.Reachable.{reachable_from}
use Rattle.icu_table_provider.specs.Tables.{Tables, jamo_base}
use Rattle.icu_table_provider.specs.Diacritics.{is_replaced_index}
use Rattle.icu_rule_root.specs.RootElements.{IsRootElement, IsStatedBy}
use Rattle.icu_rule_root.specs.inner.KeyWindows.{element_key}

-- the elements that an entry states with a character
unfoldable pub stated_elements : Data → ℕ → ℕ → List Element
stated_elements home c e = if is_stated home c e then final_elements (homed home e) c else []

-- keys, and that of one more element
abbrev pub with_key : List ℕ → Element → List ℕ
with_key keys x = keys ++ element_key x ∷ []

-- keys, and those of the elements that an entry states with a character
abbrev pub with_keys : List ℕ → Data → ℕ → ℕ → List ℕ
with_keys keys home c e = keys ++ map element_key (stated_elements home c e)

-- the key of an element of which something holds
pub record IsKeyOf (P : Element → Type 0) (k : ℕ) : Type 0 where
  pub element : Element
  pub holds : P element
  pub is : element_key element ≡ k

-- a key of an element of the root
abbrev pub IsRootKey : Tables → ℕ → Type 0
IsRootKey tables = IsKeyOf (IsRootElement tables)

-- an element that the table of jamo states by the entry at a place
abbrev pub IsStatedAtJamo : Tables → ℕ → Element → Type 0
IsStatedAtJamo tables place =
    IsStatedBy tables.root (jamo_base + place) (reachable_from tables.root (slice_index tables.jamo place))

-- the element of the diacritic at a place, if decomposed texts have it
pub record IsDiacriticAt (secondaries : List ℕ) (place : ℕ) (x : Element) : Type 0 where
  pub kept : is_replaced_index place ≡ false
  pub is : x ≡ of_secondary (slice_index secondaries place)

-- what holds at a place below a limit
pub record HoldsBelow (P : ℕ → ℕ → Type 0) (limit k : ℕ) : Type 0 where
  pub place : ℕ
  pub below : place < limit
  pub holds : P place k

-- a key that the entry of jamo at a place adds
abbrev pub IsJamoKey : Tables → ℕ → ℕ → Type 0
IsJamoKey tables place = IsKeyOf (IsStatedAtJamo tables place)

-- a key that the diacritic at a place adds
abbrev pub IsDiacriticKey : List ℕ → ℕ → ℕ → Type 0
IsDiacriticKey secondaries place = IsKeyOf (IsDiacriticAt secondaries place)
