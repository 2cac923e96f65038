-- Characters of ideographs, while they are read.
use Rattle.std.specs.Prelude.{◌≡◌, ℕ, List, [], ◌∷◌, ◌++◌}
use Rattle.icu_cldr_root.specs.RadicalLines.{WriteIdeographs}
use Rattle.icu_cldr_root.specs.declared.ideographs.CharRange.{CharRange}
use Rattle.icu_cldr_root.specs.declared.radical_line.Begun.{Begun}
use Rattle.icu_cldr_root.specs.declared.radical_line.Begun.TheVariants.{Nothing, First, Joined}

-- the characters of a range that is begun
abbrev pub begun_chars : Begun → List ℕ
begun_chars Nothing = []
begun_chars (First c) = c ∷ []
begun_chars (Joined c) = c ∷ 45 ∷ []

-- ranges were read of characters, and these are left of them
abbrev pub Continues : List CharRange → List ℕ → List CharRange → List ℕ → Type 0
Continues old front new left = (rest : List ℕ) (more : List CharRange) → WriteIdeographs (left ++ rest) more
    → (added : List CharRange) × (new ≡ old ++ added) × WriteIdeographs (front ++ rest) (added ++ more)

-- ranges were read of characters, and none of these is left
abbrev pub Ends : List CharRange → List ℕ → List CharRange → Type 0
Ends old front new = (added : List CharRange) × (new ≡ old ++ added) × WriteIdeographs front added
