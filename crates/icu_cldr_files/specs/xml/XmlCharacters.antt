-- The classes of characters that XML speaks of (Extensible Markup Language 1.0, sections 2.2 and 2.3).
use Rattle.std.specs.Prelude.{◌≡◌, ℕ, ◌<◌, Bool, true, false, ◌==◌, ◌&&◌, ◌||◌, nat_le, nat_lt, List, length, map, slice_index, EachIndex, IsTrue, if◌then◌else◌, encode_utf8_all}
use Rattle.std.specs.Str.{chars}
use Rattle.icu_cldr_files.specs.declared.xml.spans.Class.{Class}
use Rattle.icu_cldr_files.specs.declared.xml.spans.Class.TheVariants.{Space, Name}

-- white space: a space, a tab or a line feed (section 2.3; a carriage return is refused)
abbrev pub is_space : ℕ → Bool
is_space b = b == 32 || (b == 9 || b == 10)

-- a letter of ASCII, `_` or `:`, with which a name begins (section 2.3; of ASCII alone)
abbrev pub is_name_start : ℕ → Bool
is_name_start b = (nat_le 97 b && nat_le b 122) || ((nat_le 65 b && nat_le b 90) || (b == 95 || b == 58))

-- what a name goes on with: also a digit, `-` or `.`
abbrev pub is_name_byte : ℕ → Bool
is_name_byte b = is_name_start b || ((nat_le 48 b && nat_le b 57) || (b == 45 || b == 46))

-- whether a byte is in a class
abbrev pub is_of : Class → ℕ → Bool
is_of Space b = is_space b
is_of Name b = is_name_byte b

-- each byte of a text is in a class
abbrev pub EachIs : Class → List ℕ → Type 0
EachIs class text = EachIndex text (λ k. IsTrue (is_of class (slice_index text k)))

-- white space, or nothing (S?)
abbrev pub IsSpacing : List ℕ → Type 0
IsSpacing text = EachIs Space text

-- a name (section 2.3, Name; of ASCII alone)
pub record IsName (text : List ℕ) : Type 0 where
  pub any : 0 < length text
  pub start : IsTrue (is_name_start (slice_index text 0))
  pub each : EachIs Name text

-- a character that a document may have (section 2.2, Char)
abbrev pub is_character : ℕ → Bool
is_character c = (nat_le 32 c && nat_lt c 0xD800) || ((nat_le 0xE000 c && nat_lt c 0xFFFE) || ((nat_le 0x10000 c && nat_lt c 0x110000) || (c == 9 || (c == 10 || c == 13))))

-- a character that is read as it stands: one that a document may have, but for the carriage return
abbrev pub is_plain_character : ℕ → Bool
is_plain_character c = if c == 13 then false else is_character c

-- white space of an attribute's value is read as a space (section 3.3.3)
abbrev pub as_space : ℕ → ℕ
as_space c = if c == 9 || c == 10 then 32 else c

-- a text with a space for each tab and line feed
abbrev pub with_spaces : List ℕ → List ℕ
with_spaces text = encode_utf8_all (map as_space (chars text))
