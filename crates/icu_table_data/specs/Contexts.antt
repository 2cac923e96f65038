-- Contexts as they are stored: ranges of a list of mappings, which are ranges of a list of characters.
use Rattle.std.specs.Prelude.{ℕ, ◌+◌, ◌≤◌, Bool, true, ◌&&◌, List, [], ◌∷◌, length, map, take, drop, All, IsTrue}
use Rattle.std.specs.Ordering.{is_lt, nat_cmp}
use Rattle.std.specs.Cmp.Lexicographic.{slice_cmp}
use Rattle.icu_table_data.specs.declared.context.Context.{Context as StoredContext}
use Rattle.icu_table_data.specs.declared.context.ContextMapping.{ContextMapping}
use Rattle.icu_table_entries.specs.declared.error.DataErrorKind.{DataErrorKind}
use Rattle.icu_table_entries.specs.declared.error.DataErrorKind.TheVariants as kinds
use Rattle.icu_table_data.specs.Data.{Mapping, Context}

-- the mapping that is stored as a range of characters and an entry
abbrev pub mapping_of : List ℕ → ContextMapping → Mapping
mapping_of chars mapping = record { chars = take mapping.chars_len (drop mapping.chars_start chars); entry = mapping.entry }

-- the mappings that are stored
abbrev pub mappings_of : List ℕ → List ContextMapping → List Mapping
mappings_of chars mappings = map (mapping_of chars) mappings

-- the context that is stored as an entry and a range of mappings
abbrev pub stored_context : List ContextMapping → List ℕ → StoredContext → Context
stored_context mappings chars x = record { default = x.default; mappings = mappings_of chars (take x.mappings_len (drop x.mappings_start mappings)) }

-- the contexts that are stored
abbrev pub stored_contexts : List StoredContext → List ContextMapping → List ℕ → List Context
stored_contexts contexts mappings chars = map (stored_context mappings chars) contexts

-- the range of a context lies inside a list of mappings of this length
abbrev pub HasMappingsInside : ℕ → StoredContext → Type 0
HasMappingsInside len x = x.mappings_start + x.mappings_len ≤ len

-- the range of a mapping lies inside a list of characters of this length
abbrev pub HasCharsInside : ℕ → ContextMapping → Type 0
HasCharsInside len mapping = mapping.chars_start + mapping.chars_len ≤ len

-- the ranges of all contexts and of all mappings lie inside the lists
pub record HasRangesInside (contexts : List StoredContext) (mappings : List ContextMapping) (chars : List ℕ) : Type 0 where
  pub mappings_inside : All (HasMappingsInside (length mappings)) contexts
  pub chars_inside : All (HasCharsInside (length chars)) mappings

-- a list of characters comes before another, by their numbers; a beginning comes before the longer
abbrev pub is_before : List ℕ → List ℕ → Bool
is_before xs ys = is_lt (slice_cmp nat_cmp xs ys)

-- each mapping comes after the one before it, the first one after this list
unfoldable pub ascend_from : List ℕ → List Mapping → Bool
ascend_from last [] = true
ascend_from last (mapping ∷ mappings) = is_before last mapping.chars && ascend_from mapping.chars mappings

-- the mappings come after one another, and after the empty list, so that none is empty
abbrev pub has_ascending_mappings : Context → Bool
has_ascending_mappings context = ascend_from [] context.mappings

-- the mappings of each context that is stored come after one another
abbrev pub HasAscendingMappings : List StoredContext → List ContextMapping → List ℕ → Type 0
HasAscendingMappings contexts mappings chars = All (λ x. IsTrue (has_ascending_mappings (stored_context mappings chars x))) contexts

-- lists of which contexts can be read
pub record IsContextTable (contexts : List StoredContext) (mappings : List ContextMapping) (chars : List ℕ) : Type 0 where
  pub inside : HasRangesInside contexts mappings chars
  pub ascending : HasAscendingMappings contexts mappings chars

-- a condition of this kind fails
abbrev pub FailsContexts : List StoredContext → List ContextMapping → List ℕ → DataErrorKind → Type 0
FailsContexts contexts mappings chars kinds.Index = ¬ (HasRangesInside contexts mappings chars)
FailsContexts contexts mappings chars kinds.Context = ¬ (HasAscendingMappings contexts mappings chars)
FailsContexts contexts mappings chars _ = ⊥
