-- A function from characters to values, in blocks of 64 code points that may be shared.
use Rattle.std.specs.Prelude.{◌≡◌, ℕ, ◌+◌, ◌*◌, ◌/◌, ◌%◌, ◌≤◌, List, length, slice_index, All}
use Rattle.icu_table_entries.specs.declared.error.DataErrorKind.{DataErrorKind}
use Rattle.icu_table_entries.specs.declared.error.DataErrorKind.TheVariants.{Length, Index}

-- how many code points share a block
abbrev pub block_len : ℕ
block_len = 64

-- how many blocks all code points fill
abbrev pub block_count : ℕ
block_count = 17408

-- how many code points there are
abbrev pub code_point_count : ℕ
code_point_count = 0x110000

-- there is a block for each 64 code points, the values come in whole blocks
pub record HasWholeBlocks (blocks values : List ℕ) : Type 0 where
  pub count : length blocks ≡ block_count
  pub whole : length values % block_len ≡ 0

-- each block number is that of one of them
abbrev pub HasBlocksInside : List ℕ → List ℕ → Type 0
HasBlocksInside blocks values = All (λ b. 64 * b + 64 ≤ length values) blocks

-- a table of blocks and values in which each code point has a value
pub record IsCodePointTable (blocks values : List ℕ) : Type 0 where
  pub whole_blocks : HasWholeBlocks blocks values
  pub inside : HasBlocksInside blocks values

-- the value of a character
abbrev pub stored_value : List ℕ → List ℕ → ℕ → ℕ
stored_value blocks values c = slice_index values (64 * slice_index blocks (c / 64) + c % 64)

-- a condition of this kind fails
abbrev pub FailsBlocks : List ℕ → List ℕ → DataErrorKind → Type 0
FailsBlocks blocks values Length = ¬ (HasWholeBlocks blocks values)
FailsBlocks blocks values Index = ¬ (HasBlocksInside blocks values)
FailsBlocks blocks values _ = ⊥
