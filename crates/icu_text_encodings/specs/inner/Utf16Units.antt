-- What one or two units of UTF-16 are (Unicode Standard, "Unicode Encoding Forms").
use Rattle.std.specs.Prelude.{ℕ, ◌&&◌, Bool, Option, Some, None, if◌then◌else◌, unwrap_or}
use Rattle.std.specs.Char.Utf16.{is_high_surrogate, is_low_surrogate, surrogate_pair_char, lone_unit_char}

-- a lead surrogate and a trail surrogate
abbrev pub is_pair : ℕ → ℕ → Bool
is_pair u v = is_high_surrogate u && is_low_surrogate v

-- the character of such a pair, and `None` of any other two units
abbrev pub pair_char : ℕ → ℕ → Option ℕ
pair_char u v = if is_pair u v then Some (surrogate_pair_char u v) else None

-- the character of a unit that is in no pair: U+FFFD of a surrogate
abbrev pub lone_char : ℕ → ℕ
lone_char u = unwrap_or (lone_unit_char u) 0xFFFD
