-- Texts with their characters and offsets.
use Rattle.std.specs.Prelude.{ℕ, List}
use Rattle.icu_search_places.specs.declared.indexed_text.indexed_text.IndexedText.{IndexedText}

-- the characters
abbrev pub indexed_chars : IndexedText → List ℕ
indexed_chars t = t.characters.items

-- at which unit each begins, and where the text ends
abbrev pub indexed_offsets : IndexedText → List ℕ
indexed_offsets t = t.offsets.items
