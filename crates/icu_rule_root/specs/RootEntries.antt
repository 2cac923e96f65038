-- The mappings of characters that a root has by its entries (UTS #35 part 5, "Context-Sensitive Mappings").
use Rattle.std.specs.Prelude.{ℕ, ◌-◌, List, [], ◌∷◌, ◌++◌, Some, None, if◌then◌else◌, map, flat_map, slice_index}
use Rattle.icu_table_entries.specs.declared.entry.EntryKind.TheVariants.{Prefix, Contraction, Digit}
use Rattle.icu_table_entries.specs.Elements.{Element, of_secondary}
use Rattle.icu_table_entries.specs.Entries.{kind_of}
use Rattle.icu_table_data.specs.Data.{Mapping, Context, Data, homed, context_of, plain_of}
use Rattle.icu_table_data.specs.Final.{final_elements}
use Rattle.icu_table_provider.specs.Tables.{Tables, diacritic_of, is_jamo, jamo_base}
use Rattle.icu_rule_meaning.specs.TailoredRoots.{RootMapping}

-- the elements of an entry that no context leads further: a digit has those of its plain entry
unfoldable pub entry_elements : Data → ℕ → ℕ → List Element
entry_elements home c e =
    elim (kind_of e) [ Digit ↦ final_elements (homed home (plain_of home e)) c | _ ↦ final_elements (homed home e) c ]

-- the mapping that an entry has behind a prefix, nearest character first, and before a suffix
abbrev pub entry_mapping : Data → ℕ → List ℕ → List ℕ → ℕ → RootMapping
entry_mapping home c prefix suffix e = record { prefix = prefix; suffix = suffix; elements = entry_elements home c e }

-- the mappings of a contraction's suffixes behind a prefix
abbrev pub suffix_mappings : Data → ℕ → List ℕ → List Mapping → List RootMapping
suffix_mappings home c prefix = map (λ (m : Mapping). entry_mapping home c prefix m.chars m.entry)

-- the mappings of an entry behind a prefix: the one without a suffix, and those of a contraction's suffixes
unfoldable pub prefixed_mappings : Data → ℕ → List ℕ → ℕ → List RootMapping
prefixed_mappings home c prefix e =
    let context : Context = context_of (homed home e) in
    elim (kind_of e) [
      | Contraction ↦ entry_mapping home c prefix [] context.default ∷ suffix_mappings home c prefix context.mappings
      | _ ↦ entry_mapping home c prefix [] e ∷ []
    ]

-- the mappings behind each of the prefixes
abbrev pub mappings_of_prefixes : Data → ℕ → List Mapping → List RootMapping
mappings_of_prefixes home c = flat_map (λ (m : Mapping). prefixed_mappings home c m.chars m.entry)

-- the mappings of a character's entry: those without a prefix, and those behind the prefixes that it names
unfoldable pub entry_mappings : Data → ℕ → ℕ → List RootMapping
entry_mappings home c e =
    let context : Context = context_of (homed home e) in
    elim (kind_of e) [
      | Prefix ↦ prefixed_mappings home c [] context.default ++ mappings_of_prefixes home c context.mappings
      | _ ↦ prefixed_mappings home c [] e
    ]

-- the entry of a character in the root: that of a conjoining jamo by their table
unfoldable pub root_entry : Tables → ℕ → ℕ
root_entry tables c = if is_jamo c then slice_index tables.jamo (c - jamo_base) else tables.root.value c

-- the mapping of a diacritic, which has a secondary weight alone
abbrev pub diacritic_mapping : ℕ → RootMapping
diacritic_mapping s = record { prefix = []; suffix = []; elements = of_secondary s ∷ [] }

-- The mappings of a character in the root of tables, whatever their tailoring is. A diacritic has its secondary weight
-- by their table alone.
unfoldable pub root_mappings_of : Tables → ℕ → List RootMapping
root_mappings_of tables c =
    elim (diacritic_of tables c) [
      | Some s ↦ diacritic_mapping s ∷ []
      | None ↦ entry_mappings tables.root c (root_entry tables c)
    ]
