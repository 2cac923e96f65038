-- How a block is found among values, or added to them.
use Rattle.std.specs.Prelude.{◌≡◌, ℕ, ◌+◌, ◌*◌, ◌%◌, ◌<◌, ◌≤◌, List, length, slice_index}
use Rattle.icu_table_provider.specs.builder.Blocks.{HasDistinctBlocks}

-- values were kept or grew by one block that they didn't have, and block n of them is this one
pub record HoldsBlock (old new : List ℕ) (block : List ℕ) (n : ℕ) : Type 0 where
  pub kept : (i : ℕ) → i < length old → slice_index new i ≡ slice_index old i
  pub longer : length old ≤ length new
  pub at_most_one : length new ≤ length old + 64
  pub whole : length new % 64 ≡ 0
  pub inside : 64 * n + 64 ≤ length new
  pub entries : (i : ℕ) → i < 64 → slice_index new (64 * n + i) ≡ slice_index block i
  pub distinct : HasDistinctBlocks old → HasDistinctBlocks new
