-- Why a file isn't read.
use Rattle.std.specs.Prelude.{◌≡◌, ℕ, ◌<◌, false, List, [], length}
use Rattle.std.specs.List.{AllZip, flat_map, list_any}
use Rattle.icu_cldr_root.specs.FileFacts.{fixed_by}
use Rattle.icu_cldr_root.specs.FileLines.{AreLines}
use Rattle.icu_cldr_root.specs.FixedBytes.{fixes_last}
use Rattle.icu_cldr_root.specs.WrittenLines.{LineSays}
use Rattle.icu_cldr_root.specs.declared.error.Missing.TheVariants.{End}
use Rattle.icu_cldr_root.specs.declared.error.ReadError.{ReadError}
use Rattle.icu_cldr_root.specs.declared.error.ReadError.TheVariants.{Empty, Line, Missing}
use Rattle.icu_cldr_root.specs.declared.line.Line.{Line as Said}

-- lines are numbered from 1 on
abbrev pub IsNumbered : ReadError → Type 0
IsNumbered (Line line kind) = 0 < line
IsNumbered _ = Unit {0}

-- any other error than that a file is empty or cut off; lines are numbered from 1 on
abbrev pub IsOtherError : ReadError → Type 0
IsOtherError (Line line kind) = 0 < line
IsOtherError (Missing End) = ⊥
IsOtherError Empty = ⊥
IsOtherError _ = Unit {0}

-- a file that is cut off: it has a byte, each of its lines says something, and none is the last of a file
pub record IsCutOff (bytes : List ℕ) : Type 0 where
  pub lines : List (List ℕ)
  pub said : List Said
  pub some : 0 < length bytes
  pub are_lines : AreLines bytes lines
  pub say : AllZip LineSays lines said
  pub unended : list_any fixes_last (flat_map fixed_by said) ≡ false

-- a file that is called empty or cut off is so
abbrev pub IsRightlyRefused : List ℕ → ReadError → Type 0
IsRightlyRefused bytes Empty = bytes ≡ []
IsRightlyRefused bytes (Missing End) = IsCutOff bytes
IsRightlyRefused bytes _ = Unit {0}
