-- The lines of an input with bytes and of one without.
use Rattle.std.proofs.Common.{◌≡◌, ℕ, ◌<◌, ◌==◌, List, [], ◌∷◌, length, refl, arith}
use Rattle.std.specs.Io.BufRead.{strip_last}
use Rattle.std.specs.List.{slice_split}
use Rattle.line_sorts.specs.InputLines.{lines_by}

pub no_lines : (separator : ℕ) (bytes : List ℕ) → length bytes ≡ 0 → lines_by separator bytes ≡ []
no_lines separator [] h = refl
no_lines separator (byte ∷ bytes) h = absurd (omega (arith, h))

pub some_lines : (separator : ℕ) (bytes : List ℕ) → 0 < length bytes
    → lines_by separator bytes ≡ slice_split (λ b. b == separator) (strip_last separator bytes)
some_lines separator [] h = absurd (omega (arith, h))
some_lines separator (byte ∷ bytes) h = refl
