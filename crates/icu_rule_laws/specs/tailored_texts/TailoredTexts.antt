-- Texts are read by the tables of a tailoring as by its mappings (UTS #10, "Produce Collation Element Arrays"; UTS #35
-- part 5, "Collation Tailorings").
use Rattle.std.specs.Prelude.{ℕ, ◌≡◌, ◌<◌, ◌^◌, Bool, true, ◌&&◌, nat_lt, List, [], ◌∷◌, length, map, Some, None}
use Rattle.std.specs.List.{AllByRecursion}
use Rattle.icu_table_entries.specs.Elements.{Element}
use Rattle.icu_table_data.specs.CodePointTables.{code_point_count}
use Rattle.icu_table_data.specs.Data.{Data}
use Rattle.icu_table_provider.specs.Tables.{Tables, diacritic_of}
use Rattle.icu_table_provider.specs.well_formed.WellFormedTables.{HasAscendingContexts}
use Rattle.icu_element_reading.specs.TextElements.{non_numeric_reading, elements_of}
use Rattle.icu_element_matches.specs.WellFormedEntries.{IsWellFormedFrom}
use Rattle.icu_rule_root.specs.RootEntries.{diacritic_mapping, entry_mappings, root_entry, root_mappings_of}
use Rattle.icu_rule_meaning.specs.Rules.{is_scalar}
use Rattle.icu_rule_meaning.specs.TailoredRoots.{RootMapping}
use Rattle.icu_rule_meaning.specs.TailoredMappings.{symbolic_elements}
use Rattle.icu_rule_weights.specs.tailoring_numbers.NumberedElements.{numbered_element}
use Rattle.icu_rule_weights.specs.declared.tailoring_numbers.tailoring_numbers.TailoringNumbers.{TailoringNumbers}
use Rattle.icu_rule_steps.specs.symbolic_mappings.KeptMappings.{mappings_in}
use Rattle.icu_rule_steps.specs.symbolic_mappings.TouchedCharacters.{root_of}
use Rattle.icu_rule_steps.specs.declared.symbolic_mappings.kept_mappings.Mappings.{Mappings}
use Rattle.icu_rule_tables.specs.tailored_entries.GivenMappings.{TailorsCharacter}
use Rattle.icu_rule_tables.specs.tailored_entries.TailoredJamo.{TailorsJamo}
use Rattle.icu_rule_tables.specs.tailored_entries.TailoredDiacritics.{TailorsDiacritics}
use Rattle.icu_rule_laws.specs.mapped_texts.MappedTexts.{weighted}
use Rattle.icu_rule_laws.specs.tailored_texts.SaidMappings.{HasMappingAlone}

-- whether a number is a scalar value (Unicode Standard, "Unicode Encoding Forms")
abbrev pub is_scalar_code : ℕ → Bool
is_scalar_code c = is_scalar c && nat_lt c code_point_count

-- the number is a scalar value
abbrev pub IsScalarCode : ℕ → Type 0
IsScalarCode c = is_scalar_code c ≡ true

-- The tables are those of a root with a tailoring that gives mappings, whose characters without any of their own have
-- those of the root.
pub record TailorTables {R : Type 0} (mappings_of : R → ℕ → List RootMapping) (t : TailoringNumbers) (m : Mappings R) (over : Tables) (own : Data) (tables : Tables) : Type 0 where
  pub of_root : mappings_of (root_of m) ≡ root_mappings_of over
  pub tailoring : tables.tailoring ≡ Some own
  pub characters : (c : ℕ) → c < code_point_count → TailorsCharacter mappings_of t m own c
  pub jamo : TailorsJamo mappings_of t m over.root over.jamo tables.root tables.jamo
  pub diacritics : TailorsDiacritics mappings_of t m over.diacritics tables.diacritics

-- A mark that the root's table of diacritics has, and this table hasn't, is mapped by its entry in the root as by the
-- root's table.
abbrev pub HasPlainDiacritics : Tables → Tables → Type 0
HasPlainDiacritics over tables = (c secondary : ℕ) → IsScalarCode c → diacritic_of tables c ≡ None
    → diacritic_of over c ≡ Some secondary
    → entry_mappings over.root c (root_entry over c) ≡ diacritic_mapping secondary ∷ []

-- What is asked of these tables: contexts ascend, elements have lower halves of 16 bits, and the root's entries refer
-- to what is there. A mark which only the root's table of diacritics has is mapped so by its entry too.
pub record AreLegible {R : Type 0} (mappings_of : R → ℕ → List RootMapping) (m : Mappings R) (over : Tables) (own : Data) (tables : Tables) : Type 0 where
  pub ascending : HasAscendingContexts own
  pub ascending_root : HasAscendingContexts tables.root
  pub halves : AllByRecursion (λ (x : Element). x.lower < 2 ^ 16) tables.root.elements
  pub rooted : (c : ℕ) → IsScalarCode c → IsWellFormedFrom over.root c (root_entry over c)
  pub plain : HasPlainDiacritics over tables
  pub alone : (c : ℕ) → IsScalarCode c → HasMappingAlone (mappings_in mappings_of m c)

-- by such tables a decomposed text has the elements that it has by the mappings, but for elements without weights
abbrev pub TextsAreReadByTailorings : {R : Type 0} → (R → ℕ → List RootMapping) → Type 0
TextsAreReadByTailorings {R} mappings_of = (t : TailoringNumbers) (m : Mappings R) (over : Tables) (own : Data) (tables : Tables)
    → TailorTables mappings_of t m over own tables → AreLegible mappings_of m over own tables
    → (text : List ℕ) → AllByRecursion IsScalarCode text
    → weighted (elements_of (non_numeric_reading tables) text)
    ≡ weighted (map (numbered_element t) (symbolic_elements (mappings_in mappings_of m) text))

-- so it is if both tables of diacritics have one length
abbrev pub DiacriticsOfOneLengthArePlain : Type 0
DiacriticsOfOneLengthArePlain =
    (over tables : Tables) → length tables.diacritics ≡ length over.diacritics → HasPlainDiacritics over tables
