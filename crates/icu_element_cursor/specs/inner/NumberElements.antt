-- Runs of digits that are read as numbers.
use Rattle.std.specs.Prelude.{◌≡◌, ℕ, true, nat_lt, List, ◌∷◌, ◌++◌, take, map}
use Rattle.std.specs.List.{list_all}
use Rattle.unicode_normalization.specs.Forms.{nfd}
use Rattle.icu_table_entries.specs.Elements.{Element}
use Rattle.icu_element_reading.specs.TextElements.{Reading, continues_number, digit_of_char, elements_after}
use Rattle.icu_element_facts.specs.KeptFacts.{IsNumberDigit}
use Rattle.icu_element_cursor.specs.declared.few_digits.FewDigits.{FewDigits}
use Rattle.icu_element_reading.specs.boundaries.Places.{BeginsAtBoundary}

-- the digits that are kept
unfoldable pub few_digits : FewDigits → List ℕ
few_digits d = take d.len d.digits

-- a digit of this value was taken off a text
pub record BeginsWithDigit (reading : Reading) (text rest : List ℕ) (digit : ℕ) : Type 0 where
  pub char : ℕ
  pub parts : text ≡ char ∷ rest
  pub is : IsNumberDigit reading char digit

-- a text begins with digits below U+00C0, whose values were appended
pub record IsDigitRun (reading : Reading) (text rest old new : List ℕ) : Type 0 where
  pub chars : List ℕ
  pub parts : text ≡ chars ++ rest
  pub low : list_all (λ c. nat_lt c 0xC0) chars ≡ true
  pub continues : list_all (continues_number reading.tables) chars ≡ true
  pub values : new ≡ old ++ map (digit_of_char reading.tables) chars

-- a text begins with a piece that has these elements, and what follows it begins at a boundary
pub record IsNumberPiece (reading : Reading) (text rest : List ℕ) (es : List Element) : Type 0 where
  pub piece : List ℕ
  pub parts : text ≡ piece ++ rest
  pub boundary : BeginsAtBoundary reading rest
  pub elements : (before : List ℕ) → es ≡ elements_after reading before (nfd piece)
