-- The entries of digits (Unicode Standard, "Numeric Value").
use Rattle.std.specs.Prelude.{◌≡◌, ℕ, zero, suc, ◌%◌, ◌<◌, length, if◌then◌else◌}
use Rattle.ucd_perl.specs.Perl.{is_digit_char}
use Rattle.icu_table_entries.specs.declared.entry.EntryKind.TheVariants.{Digit}
use Rattle.icu_table_entries.specs.Entries.{kind_of, digit_value, entry_index}
use Rattle.icu_table_data.specs.Data.{Data, plain_of}

-- how many digits stand directly before a character, one after another
unfoldable pub digits_before : ℕ → ℕ
digits_before zero = 0
digits_before (suc c) = if is_digit_char c then suc (digits_before c) else 0

-- the value of a digit: digits, the characters with General_Category Nd, follow one another by tens, from zero to nine
abbrev pub decimal_value : ℕ → ℕ
decimal_value c = digits_before c % 10

-- the entry stands for a digit of this value, and names another one, which the table has, for texts whose digits are
-- letters like others
pub record IsDigitEntry (d : Data) (digit letter e : ℕ) : Type 0 where
  pub kind : kind_of e ≡ Digit
  pub value : digit_value e ≡ digit
  pub inside : entry_index e < length d.entries
  pub plain : plain_of d e ≡ letter
