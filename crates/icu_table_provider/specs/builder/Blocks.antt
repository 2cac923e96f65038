-- Values in blocks of 64, of which no two are the same.
use Rattle.std.specs.Prelude.{◌≢◌, ℕ, ◌+◌, ◌*◌, ◌<◌, ◌≤◌, List, length, take, drop}

-- the block with this number
abbrev pub block_at : List ℕ → ℕ → List ℕ
block_at values n = take 64 (drop (64 * n) values)

-- no two blocks are the same
abbrev pub HasDistinctBlocks : List ℕ → Type 0
HasDistinctBlocks values = (m n : ℕ) → m < n → 64 * n + 64 ≤ length values → block_at values m ≢ block_at values n
