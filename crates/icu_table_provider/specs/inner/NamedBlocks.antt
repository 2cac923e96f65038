-- Blocks of 64 code points that characters of a list are in.
use Rattle.std.specs.Prelude.{◌≡◌, ◌<◌, ◌/◌, ℕ, Bool, true, false, List, length, slice_index, slice_index_or}

-- each of the first of some characters is in a block that is marked
abbrev pub AreFirstInBlocks : ℕ → List ℕ → List Bool → Type 0
AreFirstInBlocks count chars blocks = (k : ℕ) → k < count → slice_index_or blocks (slice_index chars k / 64) false ≡ true

-- each of some characters is in a block that is marked
abbrev pub AreInBlocks : List ℕ → List Bool → Type 0
AreInBlocks chars blocks = AreFirstInBlocks (length chars) chars blocks
