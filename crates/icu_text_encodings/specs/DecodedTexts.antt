-- The text, a list of characters, that an input decodes to in each encoding.
use Rattle.std.specs.Prelude.{ℕ, List}
use Rattle.std.specs.Char.Utf16.{utf16_lossy_chars}
use Rattle.std.specs.Iterator.{YieldsFirst, AlwaysYields}
use Rattle.bstr.specs.Utf8.{lossy_chars}

-- Latin-1: each byte is the character of its number (Unicode Standard, "Latin")
abbrev pub latin1_text : List ℕ → List ℕ
latin1_text bytes = bytes

-- UTF-16: a lead surrogate and the trail surrogate directly after it are one character, and each other surrogate is
-- U+FFFD (Unicode Standard, "Unicode Encoding Forms" and "U+FFFD Substitution in Conversion")
abbrev pub utf16_text : List ℕ → List ℕ
utf16_text units = utf16_lossy_chars units

-- UTF-8: each maximal ill-formed part is one U+FFFD (Unicode Standard, "Unicode Encoding Forms" and "U+FFFD
-- Substitution of Maximal Subparts")
abbrev pub utf8_text : List ℕ → List ℕ
utf8_text bytes = lossy_chars bytes

-- each run of calls of an iterator that is seen as the list of the characters that are left gives these, and then
-- `None`
abbrev pub SpellsText : List ℕ → List ℕ → Type 0
SpellsText it cs = AlwaysYields (YieldsFirst (λ left. left)) (λ c. c) it cs
