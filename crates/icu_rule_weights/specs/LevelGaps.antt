-- Weights for the gaps of a level of two bytes (UTS #35 part 5, "Collation Tailorings").
use Rattle.std.specs.Prelude.{ℕ, ◌≡◌, ◌⊎◌, ◌<◌, ◌≤◌, ◌%◌, List, [], ◌∷◌, length, All, AllPairs, Any, Contains}
use Rattle.std.specs.Global.{Vec}
use Rattle.icu_order_levels.specs.Premises.{IsPrefixFree}
use Rattle.icu_order_levels.specs.WeightBytes.{weight_bytes}
use Rattle.icu_rule_weights.specs.declared.gap_level.GapLevel.{GapLevel}
use Rattle.icu_rule_weights.specs.declared.gap_level.GapLevel.TheVariants.{Secondary, Tertiary}
use Rattle.icu_rule_weights.specs.declared.level_gap.LevelGap.{LevelGap}

-- weights of the root at a level: none is 0, and none is written as a beginning of another
pub record AreLevelWeights (ws : List ℕ) : Type 0 where
  pub some : All (λ w. 0 < w) ws
  pub prefix_free : IsPrefixFree (weight_bytes 2) (Contains ws)

-- the greatest second byte of the weights of a level; of a tertiary weight the two high bits mean something else
abbrev pub greatest_second : GapLevel → ℕ
greatest_second Secondary = 0xFF
greatest_second Tertiary = 0x3F

-- a weight of one byte, or with a second byte from 02 up to the greatest one: 00 and 01 part the levels of a sort key
abbrev pub HasSecondByte : ℕ → ℕ → Type 0
HasSecondByte greatest w = (w % 256 ≡ 0) ⊎ ((2 ≤ w % 256) × (w % 256 ≤ greatest))

-- the weights of a gap: so many, ascending, between its ends
pub record FillsLevelGap (greatest : ℕ) (gap : LevelGap) (ws : List ℕ) : Type 0 where
  pub so_many : length ws ≡ gap.count
  pub above : All (λ w. gap.low < w) ws
  pub ascending : AllPairs (λ v w. v < w) ws
  pub below : All (λ w. w < gap.high) ws
  pub seconds : All (HasSecondByte greatest) ws

-- each of gaps has its weights, in turn
abbrev pub FillEach : ℕ → List LevelGap → List (Vec ℕ) → Type 0
FillEach greatest [] [] = Unit {0}
FillEach greatest [] (ws ∷ lists) = ⊥
FillEach greatest (gap ∷ gaps) [] = ⊥
FillEach greatest (gap ∷ gaps) (ws ∷ lists) = FillsLevelGap greatest gap ws.items × FillEach greatest gaps lists

-- one of the lists has the weight
abbrev pub IsOfLists : List (Vec ℕ) → ℕ → Type 0
IsOfLists lists w = Any (λ (ws : Vec ℕ). Contains ws.items w) lists

-- no weight of the root or of the lists is written as a beginning of another one
abbrev pub AreApartAtLevel : List ℕ → List (Vec ℕ) → Type 0
AreApartAtLevel root lists = AreLevelWeights root → IsPrefixFree (weight_bytes 2) (λ w. Contains root w ⊎ IsOfLists lists w)
