-- What lines say of the order of ideographs by radicals and strokes (UTS #35 part 5, "Root Collation Data Files").
use Rattle.std.specs.Prelude.{◌≡◌, ◌≢◌, ℕ, List, [], ◌∷◌, ◌++◌, ◌⊎◌, chars, codes}
use Rattle.icu_cldr_root.specs.Words.{IsCutAt}
use Rattle.icu_cldr_root.specs.declared.ideographs.CharRange.{CharRange}
use Rattle.icu_cldr_root.specs.declared.radical_line.RadicalLine.{RadicalLine}
use Rattle.icu_cldr_root.specs.declared.radical_line.RadicalLine.TheVariants as says

-- characters begin with a range, and these follow: two with `-` between, or one that no `-` follows
abbrev pub BeginsWithRange : List ℕ → CharRange → List ℕ → Type 0
BeginsWithRange cs r rest =
    (cs ≡ r.first ∷ 45 ∷ r.last ∷ rest)
    ⊎ ((cs ≡ r.first ∷ rest) × (r.last ≡ r.first) × ((more : List ℕ) → rest ≢ 45 ∷ more))

-- characters write ranges, one behind the other
unfoldable pub WriteIdeographs : List ℕ → List CharRange → Type 0
WriteIdeographs cs [] = cs ≡ []
WriteIdeographs cs (r ∷ rs) = (rest : List ℕ) × BeginsWithRange cs r rest × WriteIdeographs rest rs

-- what a line begins with that has the ideographs of a radical, or says that none follows
abbrev pub radical_name : List ℕ
radical_name = codes "[radical "

-- The ideographs of a radical, behind the name: they stand behind a colon. What stands before it says which radical it
-- is.
abbrev pub WritesRadical : List ℕ → List CharRange → Type 0
WritesRadical behind ranges = (inside : List ℕ) × (radical : List ℕ) × (ideographs : List ℕ)
    × (behind ≡ inside ++ 93 ∷ []) × IsCutAt 58 inside radical ideographs × WriteIdeographs (chars ideographs) ranges

-- what the text of a line says of radicals
abbrev pub SaysOfRadicals : List ℕ → RadicalLine → Type 0
SaysOfRadicals text says.Other = (behind : List ℕ) → text ≢ radical_name ++ behind
SaysOfRadicals text (says.Ideographs ranges) =
    (behind : List ℕ) × (text ≡ radical_name ++ behind) × WritesRadical behind ranges.items
SaysOfRadicals text says.End = text ≡ codes "[radical end]"
