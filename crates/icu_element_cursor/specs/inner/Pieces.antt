-- Pieces of a text.
use Rattle.std.specs.Prelude.{◌≡◌, ℕ, List, ◌++◌}
use Rattle.unicode_normalization.specs.Forms.{nfd}
use Rattle.icu_table_entries.specs.Elements.{Element}
use Rattle.icu_element_reading.specs.TextElements.{Reading, elements_after}
use Rattle.icu_element_reading.specs.boundaries.Places.{IsPiece}

-- some characters were taken off a text and decomposed
pub record AreDecomposed (text decomposed rest : List ℕ) : Type 0 where
  pub chars : List ℕ
  pub parts : text ≡ chars ++ rest
  pub value : decomposed ≡ nfd chars

-- a piece was taken off a text and decomposed
pub record IsShortPiece (reading : Reading) (text decomposed rest : List ℕ) : Type 0 where
  pub piece : List ℕ
  pub is : IsPiece reading text piece rest
  pub value : decomposed ≡ nfd piece

-- a text begins with a piece that has these elements after these characters
pub record IsPieceBegun (reading : Reading) (before text : List ℕ) (es : List Element) (rest : List ℕ) : Type 0 where
  pub piece : List ℕ
  pub is : IsPiece reading text piece rest
  pub elements : es ≡ elements_after reading before (nfd piece)
