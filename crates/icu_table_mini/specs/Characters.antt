-- Characters with their entries, and those of Mini.
use Rattle.std.specs.Prelude.{ℕ, ◌+◌, ◌*◌, List, [], ◌∷◌, ◌++◌, map}
use Rattle.std.specs.List.{range_with_len}
use Rattle.icu_table_entries.specs.EncodedEntries.{common_entry, digit_entry, simple_entry}
use Rattle.icu_table_data.specs.Data.{Data}
use Rattle.icu_table_provider.specs.builder.Building.{with_entries}

-- the characters of the list have the entries that it gives them, the last one of several, and others what they had
unfoldable pub with_characters : List (ℕ × ℕ) → (ℕ → ℕ) → ℕ → ℕ
with_characters [] value = value
with_characters (x ∷ xs) value = with_characters xs (with_entries x.0 x.0 x.1 value)

-- a root or a tailoring where they have them
abbrev pub with_characters_in : Data → List (ℕ × ℕ) → Data
with_characters_in d characters = record d { value = with_characters characters d.value }

-- so many characters from one on, the first with this entry, and each next one with so much more
abbrev pub rising : ℕ → ℕ → ℕ → ℕ → List (ℕ × ℕ)
rising first entry step count = map (λ i. (first + i, entry + step * i)) (range_with_len 0 count)

-- so many numbers, each with so much more than the one before
unfoldable pub run : ℕ → ℕ → ℕ → List ℕ
run first step count = map (λ i. first + step * i) (range_with_len 0 count)

-- Mini's characters that have entries of their own and are neither digits nor letters from a to z: one that is ignored,
-- the separator of merged texts, the replacement character; space, '-' and '.'; a circled 'A'
unfoldable pub mini_others : List (ℕ × ℕ)
mini_others =
    (0, 0)
    ∷ (0xFFFE, common_entry 0x0200)
    ∷ (0xFFFD, common_entry 0xFFFD)
    ∷ (0x20, common_entry 0x0310)
    ∷ (0x2D, common_entry 0x0410)
    ∷ (0x2E, common_entry 0x0420)
    ∷ (0x24B6, simple_entry 0x6110 5 0x9D)
    ∷ []

-- Mini's characters that have entries of their own
unfoldable pub mini_characters : List (ℕ × ℕ)
mini_characters =
    mini_others
    ++ rising 0x30 (digit_entry 0 0) 0x2100 10  -- digits, each with its value and the index of its plain entry
    ++ rising 0x61 (simple_entry 0x6110 5 0x05) 0x40000 26  -- 'a' to 'z'
    ++ rising 0x41 (simple_entry 0x6110 5 0x9C) 0x40000 26  -- 'A' to 'Z', upper case
