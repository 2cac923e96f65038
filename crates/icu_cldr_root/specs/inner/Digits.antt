-- Entries of characters that become digit entries.
use Rattle.std.specs.Prelude.{◌≡◌, ℕ, ◌-◌, ◌%◌, ◌&&◌, nat_le, nat_lt, Option, Some, None, MatchBool}
use Rattle.std.specs.BTreeMap.{get}
use Rattle.std.specs.Char.{IsScalar}
use Rattle.std.specs.Ordering.{nat_cmp}
use Rattle.icu_table_data.specs.Data.{Data}
use Rattle.ucd_perl.specs.Perl.{is_digit_char}
use Rattle.icu_table_mappings.specs.DigitEntries.{IsDigitEntry, decimal_value}
use Rattle.icu_cldr_root.specs.inner.LineEntries.{Plain}

-- a character that had an entry has that of a digit in its place, and one that had none has none
abbrev pub IsDigitOrAbsent : Data → ℕ → Option ℕ → Option ℕ → Type 0
IsDigitOrAbsent d value None new = new ≡ None
IsDigitOrAbsent d value (Some plain) new = (e : ℕ) × (new ≡ Some e) × IsDigitEntry d value plain e

-- the characters from one code up to another have the entries of digits by tens from a start, and no other changes
abbrev pub MakesDigits : Data → ℕ → ℕ → ℕ → Plain → Plain → Type 0
MakesDigits d start first end old new = (c : ℕ) → IsScalar c
    → MatchBool (nat_le first c && nat_lt c end)
    (IsDigitOrAbsent d ((c - start) % 10) (get nat_cmp old c) (get nat_cmp new c))
    (get nat_cmp new c ≡ get nat_cmp old c)

-- the digits below a code have the entries of digits with their values, and no other entry changes
abbrev pub MakesDigitsBelow : Data → ℕ → Plain → Plain → Type 0
MakesDigitsBelow d next old new = (c : ℕ) → IsScalar c
    → MatchBool (is_digit_char c && nat_lt c next)
    (IsDigitOrAbsent d (decimal_value c) (get nat_cmp old c) (get nat_cmp new c))
    (get nat_cmp new c ≡ get nat_cmp old c)

-- all digits have the entries of digits with their values, and no other entry changes
abbrev pub MakesAllDigits : Data → Plain → Plain → Type 0
MakesAllDigits d old new = (c : ℕ) → IsScalar c
    → MatchBool (is_digit_char c)
    (IsDigitOrAbsent d (decimal_value c) (get nat_cmp old c) (get nat_cmp new c))
    (get nat_cmp new c ≡ get nat_cmp old c)
