-- Primary weights for the gaps of a root (UTS #35 part 5, "Collation Tailorings").
use Rattle.std.specs.Prelude.{ℕ, ◌≡◌, ◌⊎◌, ◌<◌, ◌≤◌, ◌^◌, List, [], ◌∷◌, length, All, AllPairs, Contains, slice_index_or}
use Rattle.std.specs.Global.{Vec}
use Rattle.icu_order_levels.specs.Premises.{IsPrefixFree}
use Rattle.icu_order_levels.specs.WeightBytes.{weight_bytes}
use Rattle.icu_rule_weights.specs.weight_gaps.GapWeights.{FillsGap}
use Rattle.icu_rule_weights.specs.declared.primary_gaps.PrimaryGap.{PrimaryGap}
use Rattle.icu_rule_weights.specs.LevelGaps.{IsOfLists}

-- weights are as many as the gap asks for, and fill it
pub record FillsPrimaryGap (wanted : PrimaryGap) (ws : List ℕ) : Type 0 where
  pub so_many : length ws ≡ wanted.count
  pub fills : FillsGap wanted.gap.form wanted.gap.low wanted.gap.high ws

-- each of gaps has its weights, in turn
abbrev pub FillPrimaryGaps : List PrimaryGap → List (Vec ℕ) → Type 0
FillPrimaryGaps [] [] = Unit {0}
FillPrimaryGaps [] (ws ∷ lists) = ⊥
FillPrimaryGaps (wanted ∷ gaps) [] = ⊥
FillPrimaryGaps (wanted ∷ gaps) (ws ∷ lists) = FillsPrimaryGap wanted ws.items × FillPrimaryGaps gaps lists

-- the gap has no room for so many weights, of whatever lengths
abbrev pub IsFull : PrimaryGap → Type 0
IsFull wanted = (ws : List ℕ) → FillsGap wanted.gap.form wanted.gap.low wanted.gap.high ws → length ws < wanted.count

-- the gap at a place has no room for its weights
pub record IsFullAt (gaps : List PrimaryGap) (place : ℕ) : Type 0 where
  pub wanted : PrimaryGap
  pub inside : place < length gaps
  pub is : slice_index_or gaps place wanted ≡ wanted
  pub full : IsFull wanted

-- a gap between two weights of a root: one of them is the lower end, and none lies between the ends
pub record IsGapOf (root : List ℕ) (wanted : PrimaryGap) : Type 0 where
  pub low : Contains root wanted.gap.low
  pub short : wanted.gap.high < 2 ^ 32
  pub empty : (w : ℕ) → Contains root w → (w ≤ wanted.gap.low) ⊎ (wanted.gap.high ≤ w)

-- weights of a root, prefix free, and gaps between them in ascending order
pub record HasGaps (root : List ℕ) (gaps : List PrimaryGap) : Type 0 where
  pub prefix_free : IsPrefixFree (weight_bytes 4) (Contains root)
  pub short : All (λ w. w < 2 ^ 32) root
  pub between : All (IsGapOf root) gaps
  pub ascending : AllPairs (λ (g h : PrimaryGap). g.gap.high ≤ h.gap.low) gaps

-- no weight of the root or of its gaps is written as a beginning of another one
abbrev pub PrimaryGapsAreApart : Type 0
PrimaryGapsAreApart = (root : List ℕ) (gaps : List PrimaryGap) (lists : List (Vec ℕ))
    → HasGaps root gaps → FillPrimaryGaps gaps lists
    → IsPrefixFree (weight_bytes 4) (λ w. Contains root w ⊎ IsOfLists lists w)
