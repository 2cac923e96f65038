-- What the elements of decomposed texts are put together from: the elements of reachable entries, those of diacritics,
-- and numbers.
use Rattle.std.specs.Prelude.{ℕ, ◌≡◌, ◌⊎◌, ◌<◌, Bool, not, ◌||◌, ◌==◌, List, [], ◌∷◌, ◌++◌, Option, Some, IfSome, IsTrue}
use Rattle.std.specs.Char.{IsScalar}
use Rattle.std.specs.List.{AllByRecursion, Contains, list_all}
use Rattle.icu_table_entries.specs.Elements.{Element, of_secondary}
use Rattle.icu_table_data.specs.Data.{Data, homed}
use Rattle.icu_table_provider.specs.Tables.{Tables, diacritic_of}
use Rattle.icu_table_data.specs.Final.{final_elements}
use Rattle.icu_element_reading.specs.TextElements.{Reading, number_elements}
use Rattle.icu_table_provider.specs.ReachableTables.{AllReachable, HasDigits, IsReachable}

-- a mark that canonical decomposition replaces: U+0340, U+0341, U+0343 or U+0344 (UAX #15)
abbrev pub is_replaced : ℕ → Bool
is_replaced c = c == 0x340 || c == 0x341 || c == 0x343 || c == 0x344

-- a character of a decomposed text
pub record IsDecomposed (c : ℕ) : Type 0 where
  pub scalar : IsScalar c
  pub kept : IsTrue (not (is_replaced c))

-- a text of such characters
abbrev pub IsDecomposedText : List ℕ → Type 0
IsDecomposedText text = AllByRecursion IsDecomposed text

-- decimal digits
abbrev pub AreDigits : List ℕ → Type 0
AreDigits ds = AllByRecursion (λ d. d < 10) ds

-- the elements of each run of digits are well-formed, where digits are read as numbers
abbrev pub NumbersHold : (List Element → Type 0) → Option ℕ → Type 0
NumbersHold Holds numeric = IfSome numeric (λ lead. (ds : List ℕ) → AreDigits ds → Holds (number_elements lead ds))

-- Each part that a text's elements are put together from is well-formed, and so is what well-formed parts make one
-- after another.
pub record HasParts (Holds : List Element → Type 0) (reading : Reading) : Type 0 where
  pub none : Holds []
  pub append : (es fs : List Element) → Holds es → Holds fs → Holds (es ++ fs)
  pub digits : HasDigits reading.tables
  pub entries : AllReachable (λ home c e. Holds (final_elements (homed home e) c)) reading.tables
  pub diacritics : (c : ℕ) → IsDecomposed c → IfSome (diacritic_of reading.tables c) (λ s. Holds (of_secondary s ∷ []))
  pub numbers : NumbersHold Holds reading.numeric

-- each element passes a test
abbrev pub EachPasses : (Element → Bool) → List Element → Type 0
EachPasses test es = IsTrue (list_all test es)

-- each element of each part passes the test
pub record PartsPass (test : Element → Bool) (reading : Reading) : Type 0 where
  pub digits : HasDigits reading.tables
  pub entries : AllReachable (λ home c e. EachPasses test (final_elements (homed home e) c)) reading.tables
  pub diacritics : (c : ℕ) → IsDecomposed c → IfSome (diacritic_of reading.tables c) (λ s. IsTrue (test (of_secondary s)))
  pub numbers : NumbersHold (EachPasses test) reading.numeric

-- ---- where an element of a text comes from

-- one of the elements of an entry that is reachable with a character
pub record IsOfEntry (tables : Tables) (x : Element) : Type 0 where
  pub home : Data
  pub char : ℕ
  pub entry : ℕ
  pub reachable : IsReachable tables home char entry
  pub member : Contains (final_elements (homed home entry) char) x

-- the element of a diacritic
pub record IsOfDiacritic (tables : Tables) (x : Element) : Type 0 where
  pub char : ℕ
  pub secondary : ℕ
  pub decomposed : IsDecomposed char
  pub in_table : diacritic_of tables char ≡ Some secondary
  pub element : x ≡ of_secondary secondary

-- one of the elements of a number
pub record IsOfNumber (numeric : Option ℕ) (x : Element) : Type 0 where
  pub lead : ℕ
  pub digits : List ℕ
  pub is_numeric : numeric ≡ Some lead
  pub decimal : AreDigits digits
  pub member : Contains (number_elements lead digits) x

-- an element that a text may have
abbrev pub IsTextElement : Reading → Element → Type 0
IsTextElement reading x = IsOfEntry reading.tables x ⊎ (IsOfDiacritic reading.tables x ⊎ IsOfNumber reading.numeric x)
