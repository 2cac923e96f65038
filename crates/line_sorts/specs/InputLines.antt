-- The lines of an input, and how lines are printed.
use Rattle.std.specs.Prelude.{ℕ, List, [], ◌∷◌, ◌++◌, ◌==◌}
use Rattle.std.specs.Io.BufRead.{strip_last}
use Rattle.std.specs.List.{flat_map, slice_split}

-- The parts between separators, where a separator at the end only ends the last line. No bytes have no line
abbrev pub lines_by : ℕ → List ℕ → List (List ℕ)
lines_by separator [] = []
lines_by separator (byte ∷ bytes) = slice_split (λ b. b == separator) (strip_last separator (byte ∷ bytes))

-- those between line feeds
abbrev pub lines_of : List ℕ → List (List ℕ)
lines_of bytes = lines_by 10 bytes

-- lines, with a separator after each
abbrev pub ended_lines : ℕ → List (List ℕ) → List ℕ
ended_lines separator lines = flat_map (λ line. line ++ separator ∷ []) lines

-- lines, with a line feed after each
abbrev pub lines_text : List (List ℕ) → List ℕ
lines_text lines = ended_lines 10 lines
