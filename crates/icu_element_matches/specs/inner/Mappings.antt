-- Where a text stands among mappings that ascend.
use Rattle.std.specs.Prelude.{◌≡◌, ℕ, ◌+◌, ◌≤◌, true, false, List, length, Option, Some, None, slice_get}
use Rattle.icu_table_data.specs.Contexts.{is_before}
use Rattle.icu_table_data.specs.Data.{Mapping}

-- the last mapping before this index doesn't come after the text
abbrev pub IsUpTo : List Mapping → List ℕ → ℕ → Type 0
IsUpTo mappings text count = (k : ℕ) (mapping : Mapping) → k + 1 ≡ count → slice_get mappings k ≡ Some mapping → is_before text mapping.chars ≡ false

-- each mapping from this index on comes after the text
abbrev pub ComeAfter : List Mapping → List ℕ → ℕ → Type 0
ComeAfter mappings text count = (k : ℕ) (mapping : Mapping) → count ≤ k → slice_get mappings k ≡ Some mapping → is_before text mapping.chars ≡ true

-- so many mappings don't come after the text, and the others do
pub record SplitsMappings (mappings : List Mapping) (text : List ℕ) (count : ℕ) : Type 0 where
  pub inside : count ≤ length mappings
  pub last : IsUpTo mappings text count
  pub above : ComeAfter mappings text count

-- the mapping at an index, if there is one
abbrev pub mapping_at : List Mapping → Option ℕ → Option Mapping
mapping_at mappings None = None
mapping_at mappings (Some i) = slice_get mappings i
