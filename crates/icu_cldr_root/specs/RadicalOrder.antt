-- The order of ideographs by radicals and strokes that the lines of a file say (UTS #35 part 5, "Root Collation Data
-- Files").
use Rattle.std.specs.Prelude.{◌≡◌, ℕ, Bool, true, false, List, [], ◌∷◌, ◌++◌}
use Rattle.std.specs.List.{AllZip, flat_map, list_any}
use Rattle.icu_cldr_root.specs.FileLines.{BeginsWithLines}
use Rattle.icu_cldr_root.specs.LineParts.{text_of}
use Rattle.icu_cldr_root.specs.RadicalLines.{SaysOfRadicals}
use Rattle.icu_cldr_root.specs.declared.ideographs.CharRange.{CharRange}
use Rattle.icu_cldr_root.specs.declared.radical_line.RadicalLine.{RadicalLine}
use Rattle.icu_cldr_root.specs.declared.radical_line.RadicalLine.TheVariants as says

-- the ranges of ideographs that a line says
abbrev pub radical_ranges : RadicalLine → List CharRange
radical_ranges (says.Ideographs ranges) = ranges.items
radical_ranges _ = []

-- the line says that no radical follows
abbrev pub is_radical_end : RadicalLine → Bool
is_radical_end says.End = true
is_radical_end _ = false

-- what a line says of radicals, its comment aside
abbrev pub RadicalLineSays : List ℕ → RadicalLine → Type 0
RadicalLineSays line said = SaysOfRadicals (text_of line) said

-- these ranges are those of the radicals, line by line, up to the first line that says that none follows
pub record IsRadicalOrder (bytes : List ℕ) (ranges : List CharRange) : Type 0 where
  pub lines : List (List ℕ)
  pub last : List ℕ
  pub said : List RadicalLine
  pub begins : BeginsWithLines bytes (lines ++ last ∷ [])
  pub say : AllZip RadicalLineSays lines said
  pub unended : list_any is_radical_end said ≡ false
  pub ended : RadicalLineSays last says.End
  pub are : ranges ≡ flat_map radical_ranges said
