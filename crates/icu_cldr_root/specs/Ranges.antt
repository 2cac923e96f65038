-- Ranges of characters as a line writes them.
use Rattle.std.specs.Prelude.{◌≡◌, ℕ, List, ◌++◌, ◌⊎◌, Some, codes}
use Rattle.icu_cldr_root.specs.HexDigits.{character_written}

-- a word is two other words with `..` between, or stands for both
abbrev pub JoinsEnds : List ℕ → List ℕ → List ℕ → Type 0
JoinsEnds word first last = (word ≡ first ++ (codes ".." ++ last)) ⊎ ((first ≡ word) × (last ≡ word))

-- a word writes the range from one character to another
abbrev pub WritesRange : List ℕ → ℕ → ℕ → Type 0
WritesRange word first last = (a : List ℕ) × (b : List ℕ) × JoinsEnds word a b × (character_written a ≡ Some first) × (character_written b ≡ Some last)
