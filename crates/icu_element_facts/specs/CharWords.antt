-- What a table keeps of each character, by a word for it.
use Rattle.std.specs.Prelude.{◌≡◌, ◌<◌, ◌≤◌, ◌+◌, ◌-◌, ℕ, List, length, slice_index_or, ⊤}
use Rattle.icu_table_data.specs.CodePointTables.{stored_value}
use Rattle.icu_element_reading.specs.TextElements.{Reading}
use Rattle.icu_element_facts.specs.KeptFacts.{AreTrueFacts, IsOwn}
use Rattle.icu_element_facts.specs.KeptChars.{KeptChar}
use Rattle.icu_element_facts.specs.declared.char_facts.CharFacts.{CharFacts}
use Rattle.icu_element_facts.specs.declared.char_words.Kept.{Kept}
use Rattle.icu_element_facts.specs.declared.char_words.Kept.TheVariants.{Own, Facts, Nothing}
use Rattle.icu_element_facts.specs.declared.char_words.CharWords.{CharWords}

-- what is kept of a character is so
abbrev pub IsKept : Reading → ℕ → Kept → Type 0
IsKept reading c Own = IsOwn reading c
IsKept reading c (Facts l) = AreTrueFacts reading c l.now
IsKept reading c Nothing = ⊤

-- what a word says of a character is so: 0 that it is an own character, 1 nothing, and any other which facts are those
-- of the character
pub record IsWord (reading : Reading) (facts : List CharFacts) (c word : ℕ) : Type 0 where
  pub own : word ≡ 0 → IsOwn reading c
  pub inside : word < length facts + 2
  pub kept : (other : CharFacts) → 2 ≤ word → KeptChar reading c (slice_index_or facts (word - 2) other)

-- the word of a character
abbrev pub word_of_code : CharWords → ℕ → ℕ
word_of_code t c = stored_value t.blocks.items t.words.items c

-- so is the word of each character
abbrev pub AreWords : Reading → CharWords → Type 0
AreWords reading t = (c : ℕ) → c < 0x110000 → IsWord reading t.facts.items c (word_of_code t c)
