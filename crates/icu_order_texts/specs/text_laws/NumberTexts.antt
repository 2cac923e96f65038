-- Texts that are read as one number (UTS #35 part 5, "Setting Options" on numeric).
use Rattle.std.specs.Prelude.{ℕ, Bool, false, ◌≡◌, ◌≤◌, List, [], ◌∷◌, length, map, IsTrue}
use Rattle.std.specs.List.{AllByRecursion}
use Rattle.unicode_normalization.specs.Forms.{nfd}
use Rattle.unicode_normalization.specs.Order.{is_starter}
use Rattle.icu_order_levels.specs.Numbers.{without_first_zeros, longest_number}
use Rattle.icu_order_levels.specs.NumberLaws.{IsShortRun}
use Rattle.icu_table_entries.specs.Entries.{kind_of}
use Rattle.icu_table_provider.specs.Tables.{Tables, entry_of}
use Rattle.icu_table_provider.specs.CollatorTables.{CollatorTables}
use Rattle.icu_element_reading.specs.TextElements.{is_digit_kind, continues_number, digit_of_char, number_elements, elements_of}
use Rattle.icu_order_texts.specs.weighting.Collations.{Collation}
use Rattle.icu_order_texts.specs.TextOrder.{reading_by}

-- The text has the elements of one number and no others: of that with these digits, at most 254 after their first zeros
pub record IsNumberText (c : Collation) (text digits : List ℕ) : Type 0 where
  pub elements : elements_of (reading_by c) (nfd text) ≡ number_elements c.tables.special.numeric digits
  pub short : IsShortRun digits

-- a digit by the tables: a character that goes on a number, and is no mark
pub record IsDigitCharacter (tables : Tables) (c : ℕ) : Type 0 where
  pub continues : IsTrue (continues_number tables c)
  pub starter : IsTrue (is_starter c)

-- the digits of a text of digits
abbrev pub digits_in : CollatorTables → List ℕ → List ℕ
digits_in all text = map (digit_of_char all.tables) (nfd text)

-- a text that begins with a character which has a digit's entry itself
abbrev pub begins_with_digit : Tables → List ℕ → Bool
begins_with_digit tables [] = false
begins_with_digit tables (c ∷ cs) = is_digit_kind (kind_of (entry_of tables c).entry)

-- a text of digits alone, at most 254 after its first zeros
pub record IsDigitText (all : CollatorTables) (text : List ℕ) : Type 0 where
  pub first : IsTrue (begins_with_digit all.tables (nfd text))
  pub characters : AllByRecursion (IsDigitCharacter all.tables) (nfd text)
  pub short : length (without_first_zeros (digits_in all text)) ≤ longest_number
