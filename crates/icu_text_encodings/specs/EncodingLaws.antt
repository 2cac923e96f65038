-- Laws of the decoded texts.
use Rattle.std.specs.Prelude.{◌≡◌, ℕ, List, IsUtf8, chars, encode_utf8_all}
use Rattle.std.specs.Char.{IsScalar}
use Rattle.std.specs.Char.Escape.{encode_utf16}
use Rattle.std.specs.List.{AllByRecursion, flat_map}
use Rattle.icu_text_encodings.specs.DecodedTexts.{utf16_text, utf8_text}

-- what is written in UTF-16 decodes to what was written
abbrev pub Utf16IsReadBack : Type 0
Utf16IsReadBack = (cs : List ℕ) → AllByRecursion IsScalar cs → utf16_text (flat_map encode_utf16 cs) ≡ cs

-- what is written in UTF-8 decodes to what was written
abbrev pub Utf8IsReadBack : Type 0
Utf8IsReadBack = (cs : List ℕ) → AllByRecursion IsScalar cs → utf8_text (encode_utf8_all cs) ≡ cs

-- UTF-8 that isn't damaged decodes to its characters
abbrev pub SoundUtf8IsItsText : Type 0
SoundUtf8IsItsText = (bs : List ℕ) → IsUtf8 bs → utf8_text bs ≡ chars bs
