-- Places where texts may be cut.
use Rattle.std.specs.Prelude.{◌≡◌, ℕ, List, [], ◌∷◌, ◌++◌, ⊤}
use Rattle.unicode_normalization.specs.Forms.{nfd}
use Rattle.icu_element_reading.specs.TextElements.{Reading, elements_after}

-- a text that has the character may be cut before it: the elements are those of the two parts, whatever stands before
-- either
abbrev pub MayBeCut : Reading → ℕ → Type 0
MayBeCut reading c =
    (before after piece text : List ℕ)
    → elements_after reading before (nfd (piece ++ c ∷ text)) ≡ elements_after reading before (nfd piece) ++ elements_after reading after (nfd (c ∷ text))

-- the text ends, or may be cut before its first character
abbrev pub BeginsAtBoundary : Reading → List ℕ → Type 0
BeginsAtBoundary reading [] = ⊤
BeginsAtBoundary reading (c ∷ cs) = MayBeCut reading c

-- a text is this piece, and then the rest, which begins at a boundary
pub record IsPiece (reading : Reading) (text piece rest : List ℕ) : Type 0 where
  pub parts : text ≡ piece ++ rest
  pub boundary : BeginsAtBoundary reading rest
