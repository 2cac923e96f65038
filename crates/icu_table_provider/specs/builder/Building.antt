-- What a root or a tailoring says that is being put together.
use Rattle.std.specs.Prelude.{◌≡◌, ℕ, ◌<◌, ◌&&◌, nat_le, List, [], ◌∷◌, ◌++◌, map, slice_index_or, if◌then◌else◌}
use Rattle.icu_table_entries.specs.Elements.{Element, element_of}
use Rattle.icu_table_provider.specs.declared.builder.data_builder.DataBuilder.{DataBuilder}
use Rattle.icu_table_data.specs.CodePointTables.{code_point_count}
use Rattle.icu_table_data.specs.Contexts.{stored_contexts}
use Rattle.icu_table_data.specs.Data.{Context, Data}

-- all characters have one entry, and there are no lists and no contexts
abbrev pub empty_data : ℕ → Data
empty_data others = record { value = λ c. others; elements = []; entries = []; contexts = [] }

-- the characters from first to last have this entry, and others what they had
abbrev pub with_entries : ℕ → ℕ → ℕ → (ℕ → ℕ) → ℕ → ℕ
with_entries first last entry value c = if nat_le first c && nat_le c last then entry else value c

-- a root or a tailoring where these characters have this entry
abbrev pub set_in : Data → ℕ → ℕ → ℕ → Data
set_in d first last entry = record d { value = with_entries first last entry d.value }

-- with more elements
abbrev pub and_elements : Data → List Element → Data
and_elements d es = record d { elements = d.elements ++ es }

-- with more entries to which entries refer
abbrev pub and_entries : Data → List ℕ → Data
and_entries d es = record d { entries = d.entries ++ es }

-- with one more context
abbrev pub and_context : Data → Context → Data
and_context d x = record d { contexts = d.contexts ++ x ∷ [] }

-- what was put in so far
unfoldable pub built_data : DataBuilder → Data
built_data b =
    record {
      value = λ c. slice_index_or b.characters.items c b.others;
      elements = map element_of b.ces.items;
      entries = b.ce32s.items;
      contexts = stored_contexts b.contexts.items b.mappings.items b.chars.items;
    }

-- two that say the same of characters, which end with U+10FFFF
pub record SaysOfCharacters (wanted d : Data) : Type 0 where
  pub value : (c : ℕ) → c < code_point_count → d.value c ≡ wanted.value c
  pub elements : d.elements ≡ wanted.elements
  pub entries : d.entries ≡ wanted.entries
  pub contexts : d.contexts ≡ wanted.contexts
