-- What a table gives for a character that no line maps.
use Rattle.std.specs.Prelude.{◌≡◌, ℕ, ◌<◌, Bool, true, false, ◌==◌, [], ◌∷◌, ◌⊎◌, Option, Some, None, length}
use Rattle.icu_table_entries.specs.Elements.{of_primary}
use Rattle.icu_table_entries.specs.EncodedEntries.{implicit_entry}
use Rattle.icu_table_entries.specs.declared.entry.EntryKind.TheVariants.{Offset}
use Rattle.icu_table_entries.specs.Entries.{kind_of, entry_index}
use Rattle.icu_table_entries.specs.EntryConditions.{has_offset_weight}
use Rattle.icu_table_entries.specs.Weights.{offset_weight}
use Rattle.icu_table_data.specs.Data.{Data, data_element}
use Rattle.icu_table_mappings.specs.Given.{SpellsAlone}
use Rattle.icu_cldr_root.specs.declared.line.Line.{Line}
use Rattle.icu_cldr_root.specs.declared.line.Line.TheVariants as says

-- a line maps the character, or texts that begin with it
abbrev pub maps_first : ℕ → Line → Bool
maps_first c (says.Mapping m) = m.first == c
maps_first c _ = false

-- the entry is an offset, whose data the table has, and by these the character has the weight
pub record ComputesWeight (d : Data) (e c weight : ℕ) : Type 0 where
  pub kind : kind_of e ≡ Offset
  pub inside : entry_index e < length d.elements
  pub has : has_offset_weight (data_element d e) c ≡ true
  pub is : offset_weight (data_element d e) c ≡ weight

-- the entry gives the character one element, of this weight and common weights below: by itself or as an offset
abbrev pub GivesWeight : Data → ℕ → ℕ → ℕ → Type 0
GivesWeight d e c weight = SpellsAlone e (of_primary weight ∷ []) ⊎ ComputesWeight d e c weight

-- a character that no line maps has the weight of an ideograph, if it is one, and else its entry is implicit
abbrev pub GivesUnmapped : Data → ℕ → Option ℕ → Type 0
GivesUnmapped d c None = d.value c ≡ implicit_entry
GivesUnmapped d c (Some weight) = GivesWeight d (d.value c) c weight
