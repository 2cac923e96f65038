-- The lines of a file.
use Rattle.std.specs.Prelude.{◌≡◌, ℕ, ◌<◌, List, [], ◌∷◌, ◌++◌, Option, Some, None, length}
use Rattle.std.specs.Io.BufRead.{first_line, drop_through}

-- the lines of these bytes, each without the line break at its end
unfoldable pub AreLines : List ℕ → List (List ℕ) → Type 0
AreLines bytes [] = bytes ≡ []
AreLines bytes (line ∷ lines) = (0 < length bytes) × (line ≡ first_line bytes) × AreLines (drop_through 10 bytes) lines

-- of known bytes these lines were read, and the others are left
abbrev pub LinesRead : Option (List ℕ) → List (List ℕ) → Option (List ℕ) → Type 0
LinesRead None done left = Unit {0}
LinesRead (Some bytes) done None = ⊥
LinesRead (Some bytes) done (Some left) = (more : List (List ℕ)) → AreLines left more → AreLines bytes (done ++ more)

-- bytes begin with these lines
abbrev pub BeginsWithLines : List ℕ → List (List ℕ) → Type 0
BeginsWithLines bytes lines = (left : List ℕ) × ((more : List (List ℕ)) → AreLines left more → AreLines bytes (lines ++ more))
