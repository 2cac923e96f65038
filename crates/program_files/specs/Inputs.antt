-- Inputs that are read to their ends, one after another.
use Rattle.std.specs.Prelude.{ℕ, Bool, true, List, [], ◌∷◌, ◌++◌, Option, if◌then◌else◌, nat_eq, drop}
use Rattle.std.specs.List.{starts_with}
use Rattle.std.specs.Io.KnownBytes.{Consumes, IsAtEnd}

-- the input was read to its end, and these bytes stood there
abbrev pub TakesWhole : Option (List ℕ) → Option (List ℕ) → List ℕ → Type 0
TakesWhole old new bytes = Consumes old new bytes × IsAtEnd new

-- whether bytes end with this one; no bytes count as ended
abbrev pub ends_in : ℕ → List ℕ → Bool
ends_in separator [] = true
ends_in separator (byte ∷ []) = nat_eq byte separator
ends_in separator (byte ∷ next ∷ bytes) = ends_in separator (next ∷ bytes)

-- bytes whose last line has a separator behind it
abbrev pub ended : ℕ → List ℕ → List ℕ
ended separator bytes = if ends_in separator bytes then bytes else bytes ++ separator ∷ []

-- the byte order mark of UTF-8
abbrev pub utf_8_mark : List ℕ
utf_8_mark = 0xEF ∷ 0xBB ∷ 0xBF ∷ []

-- whether bytes begin with a mark of UTF-8
abbrev pub begins_marked : List ℕ → Bool
begins_marked bytes = starts_with nat_eq bytes utf_8_mark

-- bytes without the mark that they begin with, if they do
abbrev pub unmarked : List ℕ → List ℕ
unmarked bytes = if begins_marked bytes then drop 3 bytes else bytes
