-- The form of tables and settings that a fingerprint is made of: a list of words, each as eight bytes with the highest
-- first. Lists stand behind their lengths; what may be absent is 0, or stands behind 1.
use Rattle.std.specs.Prelude.{◌≡◌, ℕ, ◌<◌, ◌^◌, Bool, true, false, List, [], ◌∷◌, ◌++◌, Option, Some, None, length, map, option_map}
use Rattle.std.specs.Int.{to_be_bytes, w64}
use Rattle.std.specs.List.{AllByRecursion, flat_map}
use Rattle.icu_options.specs.Merge.{merge}
use Rattle.icu_options.specs.Metadata.{metadata_settings}
use Rattle.icu_options.specs.Settings.{Settings}
use Rattle.icu_options.specs.declared.options.CollatorOptions.{CollatorOptions}
use Rattle.icu_options.specs.declared.options.CollatorPreferences.{CollatorPreferences}
use Rattle.icu_options.specs.declared.settings.AlternateHandling.{AlternateHandling}
use Rattle.icu_options.specs.declared.settings.AlternateHandling.TheVariants.{NonIgnorable, Shifted, Blanked}
use Rattle.icu_options.specs.declared.settings.CollationCaseFirst.{CollationCaseFirst}
use Rattle.icu_options.specs.declared.settings.CollationCaseFirst.TheVariants as case_first
use Rattle.icu_options.specs.declared.settings.MaxVariable.{MaxVariable}
use Rattle.icu_options.specs.declared.settings.MaxVariable.TheVariants.{Space, Punctuation, Symbol, Currency}
use Rattle.icu_options.specs.declared.settings.Strength.{Strength}
use Rattle.icu_options.specs.declared.settings.Strength.TheVariants.{Primary, Secondary, Tertiary, Quaternary, Identical}
use Rattle.icu_table_entries.specs.Elements.{element_of}
use Rattle.icu_table_data.specs.CodePointTables.{stored_value}
use Rattle.icu_table_data.specs.Contexts.{stored_contexts}
use Rattle.icu_table_data.specs.Data.{Data}
use Rattle.icu_table_data.specs.declared.context.Context.{Context}
use Rattle.icu_table_data.specs.declared.context.ContextMapping.{ContextMapping}
use Rattle.icu_table_provider.specs.CollatorTables.{CollatorTables}
use Rattle.icu_table_provider.specs.Reorderings.{Reordering}
use Rattle.icu_order_texts.specs.Collations.{Collation}

-- ---- tables as they are stored

-- the lists of a root or a tailoring
pub record StoredData : Type 0 where
  pub blocks : List ℕ
  pub values : List ℕ
  pub elements : List ℕ
  pub entries : List ℕ
  pub contexts : List Context
  pub mappings : List ContextMapping
  pub chars : List ℕ

-- what they say
abbrev pub data_stored : StoredData → Data
data_stored s = record { value = stored_value s.blocks s.values; elements = map element_of s.elements; entries = s.entries; contexts = stored_contexts s.contexts s.mappings s.chars }

-- all tables of a collator
pub record StoredTables : Type 0 where
  pub root : StoredData
  pub tailoring : Option StoredData
  pub jamo : List ℕ
  pub diacritics : List ℕ
  pub last : List ℕ
  pub numeric : ℕ
  pub bits : ℕ
  pub reordering : Option Reordering

-- what they say
abbrev pub tables_stored : StoredTables → CollatorTables
tables_stored s = record {
  tables = record { root = data_stored s.root; tailoring = option_map data_stored s.tailoring; jamo = s.jamo; diacritics = s.diacritics };
  special = record { last = s.last; numeric = s.numeric };
  bits = s.bits;
  reordering = s.reordering;
}

-- ---- words

-- a list behind its length
abbrev pub counted : List ℕ → List ℕ
counted xs = length xs ∷ xs

-- a list of what has several words, behind its length
abbrev pub counted_by : {X : Type 0} → (X → List ℕ) → List X → List ℕ
counted_by words xs = length xs ∷ flat_map words xs

-- 0, or 1 and what is there
abbrev pub optional : {X : Type 0} → (X → List ℕ) → Option X → List ℕ
optional words None = 0 ∷ []
optional words (Some x) = 1 ∷ words x

-- a context
abbrev pub context_words : Context → List ℕ
context_words x = x.default ∷ x.mappings_start ∷ x.mappings_len ∷ []

-- a mapping of a context
abbrev pub mapping_words : ContextMapping → List ℕ
mapping_words x = x.chars_start ∷ x.chars_len ∷ x.entry ∷ []

-- a root or a tailoring
abbrev pub data_words : StoredData → List ℕ
data_words s =
    counted s.blocks ++ (counted s.values ++ (counted s.elements ++ (counted s.entries
    ++ (counted_by context_words s.contexts ++ (counted_by mapping_words s.mappings ++ counted s.chars)))))

-- a reordering
abbrev pub reordering_words : Reordering → List ℕ
reordering_words r = r.limit ∷ (counted r.leads ++ counted r.ranges)

-- all tables
abbrev pub table_words : StoredTables → List ℕ
table_words s =
    data_words s.root ++ (optional data_words s.tailoring ++ (counted s.jamo ++ (counted s.diacritics ++ (counted s.last
    ++ (s.numeric ∷ s.bits ∷ optional reordering_words s.reordering)))))

-- numbers of strengths
abbrev pub strength_word : Strength → ℕ
strength_word Primary = 1
strength_word Secondary = 2
strength_word Tertiary = 3
strength_word Quaternary = 4
strength_word Identical = 5

-- numbers of the ways to handle variable elements
abbrev pub handling_word : AlternateHandling → ℕ
handling_word NonIgnorable = 0
handling_word Shifted = 1
handling_word Blanked = 2

-- numbers of variable groups
abbrev pub group_word : MaxVariable → ℕ
group_word Space = 0
group_word Punctuation = 1
group_word Symbol = 2
group_word Currency = 3

-- numbers of what case comes first
abbrev pub case_word : CollationCaseFirst → ℕ
case_word case_first.False = 0
case_word case_first.Lower = 1
case_word case_first.Upper = 2

-- 0 or 1
abbrev pub bit_word : Bool → ℕ
bit_word false = 0
bit_word true = 1

-- the seven settings
abbrev pub setting_words : Settings → List ℕ
setting_words s =
    strength_word s.strength ∷ handling_word s.alternate_handling ∷ group_word s.max_variable ∷ case_word s.case_first
    ∷ bit_word s.case_level ∷ bit_word s.numeric ∷ bit_word s.backward_second_level ∷ []

-- the version of the form and of the bytes of keys, and that of Unicode by which texts are decomposed
abbrev pub version_words : List ℕ
version_words = 1 ∷ 18 ∷ 0 ∷ 0 ∷ []

-- the form of tables and settings, in words
abbrev pub form_words : StoredTables → Settings → List ℕ
form_words tables settings = version_words ++ (setting_words settings ++ table_words tables)

-- the collation of a collator that is made of tables, options and preferences
abbrev pub collation_made : CollatorTables → CollatorOptions → CollatorPreferences → Collation
collation_made all options preferences = record { tables = all; settings = merge options preferences (metadata_settings all.bits) }

-- the bytes of words
abbrev pub bytes_of : List ℕ → List ℕ
bytes_of words = flat_map (to_be_bytes w64) words

-- words of 64 bits
abbrev pub Fit : List ℕ → Type 0
Fit words = AllByRecursion (λ w. w < 2 ^ 64) words

-- bytes are the form of a collation: of tables that say what its tables say, and of its settings
pub record IsForm (c : Collation) (form : List ℕ) : Type 0 where
  pub stored : StoredTables
  pub says : tables_stored stored ≡ c.tables
  pub fits : Fit (form_words stored c.settings)
  pub is : form ≡ bytes_of (form_words stored c.settings)
