-- Texts are read by tables as by mappings of characters (UTS #10, "Produce Collation Element Arrays"; UTS #35 part 5,
-- "Context-Sensitive Mappings").
use Rattle.std.specs.Prelude.{ℕ, Bool, true, not, ◌&&◌, ◌==◌, ◌≡◌, List, [], ◌∷◌, ◌++◌, map, filter, Option, Some, None}
use Rattle.std.specs.List.{AllByRecursion}
use Rattle.icu_table_entries.specs.Elements.{Element, of_secondary}
use Rattle.icu_table_entries.specs.Entries.{kind_of}
use Rattle.icu_table_entries.specs.declared.entry.EntryKind.TheVariants.{Contraction}
use Rattle.icu_table_data.specs.Data.{Data, Mapping, Context, homed, context_of, mapping_entry}
use Rattle.icu_table_provider.specs.Tables.{Tables, entry_of, diacritic_of}
use Rattle.icu_element_matches.specs.Matches.{after_prefix}
use Rattle.icu_element_reading.specs.TextElements.{non_numeric_reading, elements_of}
use Rattle.icu_rule_root.specs.RootEntries.{entry_elements}
use Rattle.icu_rule_meaning.specs.declared.symbolic.SymbolicElement.{SymbolicElement}
use Rattle.icu_rule_meaning.specs.TailoredMappings.{SymbolicMapping, SymbolicMappings, beginnings, mapping_with, mappings_behind, symbolic_elements}

-- an element that has a weight
abbrev pub is_weighted : Element → Bool
is_weighted x = not (x.primary == 0 && x.secondary == 0 && x.lower == 0)

-- elements without those that have no weight: no level reads these
abbrev pub weighted : List Element → List Element
weighted = filter is_weighted

-- the default of a context, as a mapping without a suffix
abbrev pub default_mapping : Context → Mapping
default_mapping context = record { chars = []; entry = context.default }

-- The context of an entry, once its prefix is decided: that which a contraction names. Any other entry stands for the
-- character before whatever follows.
unfoldable pub context_behind_prefix : Data → ℕ → Context
context_behind_prefix home e =
    let alone : Context = record { default = e; mappings = [] } in
    elim (kind_of e) [ Contraction ↦ context_of (homed home e) | _ ↦ alone ]

-- the entry that a context has before a suffix, if it has one
abbrev pub entry_of_suffix : Context → List ℕ → Option ℕ
entry_of_suffix context suffix = mapping_entry (context.mappings ++ default_mapping context ∷ []) suffix

-- an entry and a mapping have the same elements with weights, or there is neither
abbrev pub HaveSameElements : (SymbolicElement → Element) → Data → ℕ → Option ℕ → Option SymbolicMapping → Type 0
HaveSameElements number home c None None = Unit {0}
HaveSameElements number home c (Some e) (Some m) =
    weighted (entry_elements home c e) ≡ weighted (map number m.elements)
HaveSameElements number home c _ _ = ⊥

-- An entry of a character says just its mappings: behind each context, nearest character first, and before each suffix
-- it comes to an entry exactly if a mapping counts there, and to the same elements.
abbrev pub SaysMappings : (SymbolicElement → Element) → Data → ℕ → ℕ → List SymbolicMapping → Type 0
SaysMappings number home c e mappings = (before suffix : List ℕ)
    → HaveSameElements number home c
    (entry_of_suffix (context_behind_prefix home (after_prefix (homed home e) before)) suffix)
    (mapping_with (mappings_behind mappings (beginnings before)) suffix)

-- a diacritic has its secondary weight, whatever stands around it
pub record IsMappedAlone (number : SymbolicElement → Element) (secondary : ℕ) (mappings : List SymbolicMapping) : Type 0 where
  pub prefix : List ℕ
  pub elements : List SymbolicElement
  pub alone : (before : List ℕ) → mappings_behind mappings (beginnings before)
      ≡ record { prefix = prefix; suffix = []; elements = elements } ∷ []
  pub weights : weighted (map number elements) ≡ weighted (of_secondary secondary ∷ [])

-- the tables say the mappings of each character
pub record SayAllMappings (number : SymbolicElement → Element) (tables : Tables) (mappings : SymbolicMappings) : Type 0 where
  pub entries : (c : ℕ) → diacritic_of tables c ≡ None
      → SaysMappings number (entry_of tables c).home c (entry_of tables c).entry (mappings c)
  pub diacritics : (c secondary : ℕ) → diacritic_of tables c ≡ Some secondary
      → IsMappedAlone number secondary (mappings c)

-- the tables say the mappings of each character of which a test is true
pub record SayMappingsOf (test : ℕ → Bool) (number : SymbolicElement → Element) (tables : Tables) (mappings : SymbolicMappings) : Type 0 where
  pub entries : (c : ℕ) → test c ≡ true → diacritic_of tables c ≡ None
      → SaysMappings number (entry_of tables c).home c (entry_of tables c).entry (mappings c)
  pub diacritics : (c secondary : ℕ) → test c ≡ true → diacritic_of tables c ≡ Some secondary
      → IsMappedAlone number secondary (mappings c)

-- by tables that say the mappings of each character, a decomposed text has the elements that it has by these, but for
-- elements without weights
abbrev pub TextsAreReadByMappings : Type 0
TextsAreReadByMappings = (number : SymbolicElement → Element) (tables : Tables) (mappings : SymbolicMappings)
    → SayAllMappings number tables mappings → (text : List ℕ)
    → weighted (elements_of (non_numeric_reading tables) text)
    ≡ weighted (map number (symbolic_elements mappings text))

-- by tables that say the mappings of each character of which a test is true, a decomposed text of such characters has
-- the elements that it has by these, but for elements without weights
abbrev pub TextsOfSomeAreReadByMappings : Type 0
TextsOfSomeAreReadByMappings = (test : ℕ → Bool) (number : SymbolicElement → Element) (tables : Tables)
    (mappings : SymbolicMappings) → SayMappingsOf test number tables mappings → (text : List ℕ)
    → AllByRecursion (λ c. test c ≡ true) text
    → weighted (elements_of (non_numeric_reading tables) text)
    ≡ weighted (map number (symbolic_elements mappings text))
