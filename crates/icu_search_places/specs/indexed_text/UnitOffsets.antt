-- How many units the characters of a text take in its encoding, and at which unit each begins (Unicode Standard,
-- "Unicode Encoding Forms").
use Rattle.std.specs.Prelude.{◌≡◌, ℕ, ◌+◌, List, [], ◌∷◌, map, if◌then◌else◌, nat_lt}
use Rattle.std.specs.Char.{len_utf8}
use Rattle.bstr.specs.Utf8.{pieces}
use Rattle.icu_text_encodings.specs.DecodedTexts.{utf16_text}

-- Latin-1: a byte each
abbrev pub latin1_sizes : List ℕ → List ℕ
latin1_sizes bytes = map (λ _. 1) bytes

-- a character's units in UTF-16: one, or two from U+10000 on
abbrev pub size_in_utf16 : ℕ → ℕ
size_in_utf16 c = if nat_lt c 0x1_0000 then 1 else 2

-- UTF-16: as many as its characters take
abbrev pub utf16_sizes : List ℕ → List ℕ
utf16_sizes units = map size_in_utf16 (utf16_text units)

-- UTF-8: the bytes of a character, or of a maximal ill-formed part, which is one U+FFFD
abbrev pub utf8_sizes : List ℕ → List ℕ
utf8_sizes bytes = map (λ p. p.size) (pieces bytes)

-- UTF-8 that isn't damaged: from one byte to four
abbrev pub str_sizes : List ℕ → List ℕ
str_sizes characters = map len_utf8 characters

-- at which unit each character begins, and where the text ends, if so many units stand before it
unfoldable pub offsets_along : ℕ → List ℕ → List ℕ
offsets_along n [] = n ∷ []
offsets_along n (size ∷ sizes) = n ∷ offsets_along (n + size) sizes

-- a text begins with a character that takes so many units, and then comes the rest
pub record TakesFirst (c size : ℕ) (all all_sizes rest rest_sizes : List ℕ) : Type 0 where
  pub text : all ≡ c ∷ rest
  pub sizes : all_sizes ≡ size ∷ rest_sizes
