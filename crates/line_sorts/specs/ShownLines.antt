-- Lines that are borrowed.
use Rattle.std.specs.Prelude.{ℕ, List, map}
use Rattle.std.specs.Borrow.{Bor}

-- the bytes of lines that are borrowed
abbrev pub shown_lines : List (Bor (List ℕ)) → List (List ℕ)
shown_lines lines = map (λ line. line.now) lines
