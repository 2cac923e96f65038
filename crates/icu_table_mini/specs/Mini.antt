-- The test table Mini. It is made for tests: space, '-' and '.', digits and the letters a to z have weights of their
-- own, and every other character has an implicit weight.
use Rattle.std.specs.Prelude.{◌≡◌, ℕ, List, [], ◌∷◌, ◌++◌, Option, Some, None}
use Rattle.std.specs.Option.{option_map}
use Rattle.icu_table_provider.specs.builder.Building.{SaysOfCharacters}
use Rattle.icu_table_data.specs.Data.{Context, Data}
use Rattle.icu_table_provider.specs.builder.OwnedData.{vectors_data}
use Rattle.icu_table_provider.specs.declared.builder.data_vectors.DataVectors.{DataVectors}
use Rattle.icu_table_entries.specs.Elements.{Element}
use Rattle.icu_table_entries.specs.Entries.{fallback_entry}
use Rattle.icu_table_entries.specs.EncodedEntries.{implicit_entry, common_entry}
use Rattle.icu_options.specs.declared.settings.MaxVariable.TheVariants as groups
use Rattle.icu_table_provider.specs.MetadataFields.{metadata_bits, plain_fields}
use Rattle.icu_table_provider.specs.declared.metadata.MetadataFields.{MetadataFields}
use Rattle.icu_table_provider.specs.Reorderings.{Reordering}
use Rattle.icu_table_provider.specs.SpecialPrimaries.{SpecialPrimaries}
use Rattle.icu_table_provider.specs.Tables.{Tables}
use Rattle.icu_table_mini.specs.declared.mini.Mini.{Mini}
use Rattle.icu_table_mini.specs.Characters.{with_characters, mini_characters, run}
use Rattle.icu_table_mini.specs.ReorderingData.{reordering_held}

-- what a collator reads in the tables
abbrev pub collator_tables : Mini → Tables
collator_tables m =
    record { root = vectors_data m.root; tailoring = option_map vectors_data m.tailoring; jamo = m.jamo.items; diacritics = m.diacritics.items }

-- the special primary weights
abbrev pub special_held : Mini → SpecialPrimaries
special_held m = record { last = m.last_primaries.items; numeric = m.numeric_primary }

-- What all tables are to say.
pub record Contents : Type 0 where
  pub root : Data
  pub tailoring : Option Data
  pub jamo : List ℕ
  pub diacritics : List ℕ
  pub special : SpecialPrimaries
  pub metadata : ℕ
  pub reordering : Option Reordering

-- there is a tailoring exactly if one is wanted, and it says what it is to say
abbrev pub SaysAny : Option Data → Option DataVectors → Type 0
SaysAny None None = Unit {0}
SaysAny (Some wanted) (Some d) = SaysOfCharacters wanted (vectors_data d)
SaysAny _ _ = ⊥

-- they say just that
pub record Holds (contents : Contents) (m : Mini) : Type 0 where
  pub root : SaysOfCharacters contents.root (vectors_data m.root)
  pub tailoring : SaysAny contents.tailoring m.tailoring
  pub jamo : m.jamo.items ≡ contents.jamo
  pub diacritics : m.diacritics.items ≡ contents.diacritics
  pub special : special_held m ≡ contents.special
  pub metadata : m.metadata.bits ≡ contents.metadata
  pub reordering : option_map reordering_held m.reordering ≡ contents.reordering

-- Mini's root, where these characters too have entries of their own, with these elements, and with these entries after
-- those of the digits
abbrev pub mini_root : List (ℕ × ℕ) → List Element → List ℕ → Data
mini_root characters elements entries = record {
  value = with_characters characters (with_characters mini_characters (λ c. implicit_entry));
  elements = elements;
  entries = run (common_entry 0x1410) 0x40000 10 ++ entries;
  contexts = [];
}

-- a tailoring of these characters, with these elements and contexts
abbrev pub mini_tailoring : List (ℕ × ℕ) → List Element → List Context → Data
mini_tailoring characters elements contexts = record {
  value = with_characters characters (λ c. fallback_entry);
  elements = elements;
  entries = [];
  contexts = contexts;
}

-- the special primary weights, with the end of the last group and the lead byte of numbers
abbrev pub special_with : ℕ → ℕ → SpecialPrimaries
special_with currency numeric = record { last = 0x0400 ∷ 0x0600 ∷ 0x0900 ∷ currency ∷ []; numeric = numeric }

-- what the metadata says: the last variable group is punctuation
abbrev pub mini_fields : MetadataFields
mini_fields = plain_fields groups.Punctuation

-- Mini with this root
abbrev pub mini_with : Data → Contents
mini_with root = record {
  root = root;
  tailoring = None;
  jamo = run (common_entry 0x6510) 0x10000 128 ++ run (common_entry 0x6610) 0x10000 128;
  diacritics = run 0x4600 0x100 79;
  special = special_with 0x0E00 0x0F;
  metadata = metadata_bits mini_fields;
  reordering = None;
}

-- Mini itself
abbrev pub mini : Contents
mini = mini_with (mini_root [] [] [])

-- these are the tables of Mini
abbrev pub IsMini : Mini → Type 0
IsMini = Holds mini
