-- Blocks of 64 characters whose entries give the same wherever the characters stand.
use Rattle.std.specs.Prelude.{◌≡◌, ◌<◌, ◌+◌, ◌*◌, ℕ, true, false, Option, Some, None, slice_index, slice_index_or, ⊤}
use Rattle.icu_table_entries.specs.Entries.{kind_of}
use Rattle.icu_table_data.specs.Data.{Data}
use Rattle.icu_table_provider.specs.Tables.{Tables}
use Rattle.icu_element_facts.specs.inner.LoneEntries.{is_lone_kind}
use Rattle.icu_element_facts.specs.declared.lone_blocks.LoneBlocks.{LoneBlocks}
use Rattle.icu_element_facts.specs.declared.lone_blocks.LoneTable.{LoneTable}

-- where a block counts as such, the values of its characters are
abbrev pub IsLoneTable : LoneTable → (ℕ → ℕ) → Type 0
IsLoneTable t value =
    (index k : ℕ) → slice_index_or t.stored.items (slice_index t.blocks.now index) false ≡ true → k < 64 → is_lone_kind (kind_of (value (64 * index + k))) ≡ true

-- so it is in a tailoring, where there is one
abbrev pub AreLoneTailored : Option LoneTable → Option Data → Type 0
AreLoneTailored None None = ⊤
AreLoneTailored (Some t) (Some d) = IsLoneTable t d.value
AreLoneTailored _ _ = ⊥

-- and in both
pub record AreLoneBlocks (lone : LoneBlocks) (tables : Tables) : Type 0 where
  pub root : IsLoneTable lone.root tables.root.value
  pub tailoring : AreLoneTailored lone.tailoring tables.tailoring
