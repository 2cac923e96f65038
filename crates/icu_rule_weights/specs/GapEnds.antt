-- Which weights may stand in a gap of a level (UTS #35 part 5, "Collation Tailorings"). Sort keys write runs of common
-- weights with some lead bytes, and weights of elements without one of the level before stand above all others.
use Rattle.std.specs.Prelude.{ℕ, ◌≡◌, ◌⊎◌, ◌<◌, ◌≤◌, Bool, true, false, Option, Some, None}
use Rattle.icu_table_entries.specs.Elements.{common}
use Rattle.icu_rule_weights.specs.declared.gap_level.GapLevel.{GapLevel}
use Rattle.icu_rule_weights.specs.declared.gap_level.GapLevel.TheVariants.{Secondary, Tertiary}

-- the least weight of an element without a weight of the level before
abbrev pub first_alone : GapLevel → ℕ
first_alone Secondary = 0x8000
first_alone Tertiary = 0x3C00

-- a number above all weights
abbrev pub last_alone : GapLevel → ℕ
last_alone Secondary = 0x10000
last_alone Tertiary = 0x4000

-- the least weight beside one of the level before: secondary weights of a backward level can't have lead byte 02, by
-- which sort keys part it
abbrev pub least_beside : GapLevel → ℕ
least_beside Secondary = 0x0300
least_beside Tertiary = 0x0200

-- the last number with a lead byte that runs of common weights are written with
abbrev pub last_common : GapLevel → ℕ
last_common Secondary = 0x45FF
last_common Tertiary = 0x05FF

-- weights of a level beside one of the level before: on both sides of what runs of common weights are written with
abbrev pub IsBesideWeight : GapLevel → ℕ → Type 0
IsBesideWeight level x = ((least_beside level ≤ x) × (x < common)) ⊎ ((last_common level < x) × (x < first_alone level))

-- weights of a level of elements without one of the level before, or of others
abbrev pub IsGapWeight : GapLevel → Bool → ℕ → Type 0
IsGapWeight level true x = (first_alone level ≤ x) × (x < last_alone level)
IsGapWeight level false x = IsBesideWeight level x

-- a number is below the next weight, if there is one
abbrev pub IsBelowNext : Option ℕ → ℕ → Type 0
IsBelowNext None x = Unit {0}
IsBelowNext (Some n) x = x < n

-- a weight may stand in the gap behind another one: below the next one, and on its side of the common weight
pub record IsInGap (level : GapLevel) (alone : Bool) (w : ℕ) (next : Option ℕ) (x : ℕ) : Type 0 where
  pub above : w < x
  pub below : IsBelowNext next x
  pub kind : IsGapWeight level alone x
  pub side : alone ≡ false → w < common → x < common
