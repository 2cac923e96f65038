-- What is written of elements (UTS #35 part 5, "Root Collation Data Files").
use Rattle.std.specs.Prelude.{◌≡◌, ℕ, ◌+◌, ◌*◌, ◌^◌, List, [], ◌∷◌, ◌++◌, ◌⊎◌, Some, codes}
use Rattle.std.specs.Str.{trim, trim_start}
use Rattle.icu_table_entries.specs.Elements.{common}
use Rattle.icu_cldr_root.specs.HexDigits.{character_written}
use Rattle.icu_cldr_root.specs.Words.{IsCutAt, WriteBytes}
use Rattle.icu_cldr_root.specs.declared.fractional_element.FractionalElement.{FractionalElement}
use Rattle.icu_cldr_root.specs.declared.fractional_element.Primary.{Primary}
use Rattle.icu_cldr_root.specs.declared.fractional_element.Primary.TheVariants.{Weight, OfIdeograph}

-- a primary weight of at most four bytes, the first of which is the highest
abbrev pub WritesLongWeight : List ℕ → ℕ → Type 0
WritesLongWeight text weight = (a : ℕ) × (b : ℕ) × (c : ℕ) × (d : ℕ) × WriteBytes text (a ∷ b ∷ c ∷ d ∷ [])
    × (weight ≡ a * 2 ^ 24 + b * 2 ^ 16 + c * 2 ^ 8 + d)

-- a secondary or a tertiary weight of at most two bytes
abbrev pub WritesShortWeight : List ℕ → ℕ → Type 0
WritesShortWeight text weight = (a : ℕ) × (b : ℕ) × WriteBytes text (a ∷ b ∷ []) × (weight ≡ a * 2 ^ 8 + b)

-- the primary weight of an ideograph: `U+` and its number
abbrev pub WritesIdeograph : List ℕ → Primary → Type 0
WritesIdeograph text primary = (word : List ℕ) × (c : ℕ)
    × (trim text ≡ codes "U+" ++ word) × (character_written word ≡ Some c) × (primary ≡ OfIdeograph c)

-- a primary weight: its bytes, or an ideograph that has it
abbrev pub WritesPrimary : List ℕ → Primary → Type 0
WritesPrimary text primary =
    WritesIdeograph text primary ⊎ ((weight : ℕ) × WritesLongWeight (trim text) weight × (primary ≡ Weight weight))

-- an element, by what stands between its brackets: its three weights, or an ideograph and the tertiary weight, or an
-- ideograph alone, where a weight that is left out is common
abbrev pub WritesElement : List ℕ → FractionalElement → Type 0
WritesElement text e =
    ((primary : List ℕ) × (weights : List ℕ) × (secondary : List ℕ) × (tertiary : List ℕ)
    × IsCutAt 44 text primary weights × IsCutAt 44 weights secondary tertiary
    × WritesPrimary primary e.primary × WritesShortWeight secondary e.secondary × WritesShortWeight tertiary e.tertiary)
    ⊎ ((primary : List ℕ) × (tertiary : List ℕ) × IsCutAt 44 text primary tertiary
    × WritesIdeograph primary e.primary × (e.secondary ≡ common) × WritesShortWeight tertiary e.tertiary)
    ⊎ (WritesIdeograph text e.primary × (e.secondary ≡ common) × (e.tertiary ≡ common))

-- behind white space, if there is any, a text begins with an element in brackets, and this is left
abbrev pub BeginsWithElement : List ℕ → FractionalElement → List ℕ → Type 0
BeginsWithElement text e rest = (front : List ℕ) × (inside : List ℕ)
    × IsCutAt 93 text front rest × (trim_start front ≡ 91 ∷ inside) × WritesElement inside e

-- a text is elements that follow one another, each in brackets: these
unfoldable pub WriteElements : List ℕ → List FractionalElement → Type 0
WriteElements text [] = trim_start text ≡ []
WriteElements text (e ∷ es) = (rest : List ℕ) × BeginsWithElement text e rest × WriteElements rest es
