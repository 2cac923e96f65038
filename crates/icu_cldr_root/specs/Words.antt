-- The words of a text, with white space between, and what they write.
use Rattle.std.specs.Prelude.{◌≡◌, ℕ, ◌<◌, List, [], ◌∷◌, ◌++◌, ◌⊎◌, ◌==◌, length, Some}
use Rattle.std.specs.Char.{is_whitespace, is_not_whitespace}
use Rattle.std.specs.List.{position_or_len, before_first, after_first}
use Rattle.std.specs.Str.{NoCharPasses, EmptyOrStartsWithPassing}
use Rattle.icu_cldr_root.specs.HexDigits.{character_written, byte_written}

-- a text is cut at the first of a byte: before it this stands, and behind it that
abbrev pub IsCutAt : ℕ → List ℕ → List ℕ → List ℕ → Type 0
IsCutAt byte text before behind =
    (position_or_len (λ b. b == byte) text < length text)
    × (before ≡ before_first (λ b. b == byte) text)
    × (behind ≡ after_first (λ b. b == byte) text)

-- a text is white space, if it is anything
abbrev pub IsBlankText : List ℕ → Type 0
IsBlankText text = NoCharPasses is_not_whitespace text

-- behind white space, if there is any, a text begins with a whole word, and this is left
abbrev pub BeginsWithWord : List ℕ → List ℕ → List ℕ → Type 0
BeginsWithWord text word rest = (gap : List ℕ) × (text ≡ gap ++ (word ++ rest)) × (0 < length word)
    × IsBlankText gap × NoCharPasses is_whitespace word × ((more : List ℕ) × EmptyOrStartsWithPassing is_whitespace rest more)

-- the words of a text write these values, each word one
unfoldable pub WordsWrite : {A : Type 0} → (List ℕ → A → Type 0) → List ℕ → List A → Type 0
WordsWrite Writes text [] = IsBlankText text
WordsWrite Writes text (x ∷ xs) =
    (word : List ℕ) × (rest : List ℕ) × BeginsWithWord text word rest × Writes word x × WordsWrite Writes rest xs

-- the words of a text write the numbers of these characters
abbrev pub WriteCharacters : List ℕ → List ℕ → Type 0
WriteCharacters text chars = WordsWrite (λ word c. character_written word ≡ Some c) text chars

-- a text begins with a word that writes a byte other than 00, or it is blank, and then 00 stands for the byte
abbrev pub NextByte : List ℕ → ℕ → List ℕ → Type 0
NextByte text byte rest =
    (IsBlankText text × (byte ≡ 0) × (rest ≡ text))
    ⊎ ((word : List ℕ) × BeginsWithWord text word rest × (byte_written word ≡ Some byte) × (0 < byte))

-- the words of a text write bytes other than 00: these, where 00 stands for those that a shorter text hasn't
unfoldable pub WriteBytes : List ℕ → List ℕ → Type 0
WriteBytes text [] = IsBlankText text
WriteBytes text (byte ∷ bytes) = (rest : List ℕ) × NextByte text byte rest × WriteBytes rest bytes
