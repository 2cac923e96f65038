-- The parts that characters decompose to.
use Rattle.std.specs.Prelude.{ℕ, List, [], drop, flat_map, Option, Some, None}
use Rattle.ucd_normal.specs.declared.forms.Form.TheVariants.{Nfd}
use Rattle.unicode_normalization.specs.Decompose.{decompose}

-- what the characters of a text decompose to, not put in order (UAX #15, "Normalization Forms")
abbrev pub parts_of : List ℕ → List ℕ
parts_of = flat_map (decompose Nfd)

-- the parts of a character from this one on
abbrev pub begun_left : Option (ℕ × ℕ) → List ℕ
begun_left None = []
begun_left (Some p) = drop p.1 (decompose Nfd p.0)
