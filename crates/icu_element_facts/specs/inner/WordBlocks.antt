-- Words of characters, as they are made block by block.
use Rattle.std.specs.Prelude.{◌≡◌, ◌<◌, ◌≤◌, ◌+◌, ◌*◌, ◌%◌, ℕ, List, ◌++◌, length, slice_index, All}
use Rattle.icu_table_data.specs.CodePointTables.{stored_value}
use Rattle.icu_element_reading.specs.TextElements.{Reading}
use Rattle.icu_element_facts.specs.CharWords.{IsWord}
use Rattle.icu_element_facts.specs.declared.char_facts.CharFacts.{CharFacts}
use Rattle.icu_element_facts.specs.declared.word_blocks.WordBlocks.{WordBlocks}

-- the word of a character, by facts to which more were added
pub record IsOneWord (reading : Reading) (c word : ℕ) (old new : List CharFacts) : Type 0 where
  pub more : List CharFacts
  pub added : new ≡ old ++ more
  pub is : IsWord reading new c word

-- the words of characters from this one on, in order
abbrev pub AreWordsFrom : Reading → List CharFacts → ℕ → List ℕ → Type 0
AreWordsFrom reading facts first words = (k : ℕ) → k < length words → IsWord reading facts (first + k) (slice_index words k)

-- the words of characters from this one on, by facts to which more were added
pub record AreMoreWords (reading : Reading) (first : ℕ) (words : List ℕ) (old new : List CharFacts) : Type 0 where
  pub more : List CharFacts
  pub added : new ≡ old ++ more
  pub are : AreWordsFrom reading new first words

-- the blocks that were made are whole, each block number is that of one, and the words are so; the first of them has
-- words 0 alone, and the second words 1
pub record AreBlocks (reading : Reading) (blocks words : List ℕ) (facts : List CharFacts) : Type 0 where
  pub whole : length words % 64 ≡ 0
  pub two : 128 ≤ length words
  pub inside : All (λ b. 64 * b + 64 ≤ length words) blocks
  pub zeros : (k : ℕ) → k < 64 → slice_index words k ≡ 0
  pub ones : (k : ℕ) → k < 64 → slice_index words (64 + k) ≡ 1
  pub are : (c : ℕ) → c < 64 * length blocks → IsWord reading facts c (stored_value blocks words c)

-- so are those that are made
abbrev pub IsMade : Reading → WordBlocks → Type 0
IsMade reading made = AreBlocks reading made.blocks.items made.words.items made.facts.items

-- one more block was made
pub record IsBlockMore (reading : Reading) (old new : WordBlocks) : Type 0 where
  pub count : length new.blocks.items ≡ length old.blocks.items + 1
  pub made : IsMade reading old → IsMade reading new
