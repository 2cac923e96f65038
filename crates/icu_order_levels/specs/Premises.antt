-- What the levels ask of the weights that may occur. Crates that know tables prove it of them.
use Rattle.std.specs.Prelude.{Bool, true, false, ◌&&◌, ◌||◌, ◌≡◌, ◌≢◌, ◌⊎◌, ℕ, ◌+◌, ◌*◌, ◌/◌, ◌%◌, ◌^◌, ◌<◌, ◌≤◌, ◌==◌, nat_le, List, [], ◌∷◌}
use Rattle.icu_order_levels.specs.ListOrder.{IsBeginning}
use Rattle.icu_order_levels.specs.WeightBytes.{weight_bytes}
use Rattle.icu_order_levels.specs.Primaries.{Compression, lead, below_lead, second_byte}
use Rattle.icu_order_levels.specs.RunNumbers.{common_weight}
use Rattle.icu_order_levels.specs.Tertiaries.{tertiary_runs}
use Rattle.icu_order_levels.specs.declared.forms.TertiaryForm.{TertiaryForm}
use Rattle.icu_order_levels.specs.declared.forms.TertiaryForm.TheVariants.{LowerFirst, UpperFirst, WithoutCase}

-- No weight is written as a beginning of another: weights are prefix free, as the standard asks of the weights of
-- one level (UTS #10, "Large Weight Values")
abbrev pub IsPrefixFree : (ℕ → List ℕ) → (ℕ → Type 0) → Type 0
IsPrefixFree spell IsReachable = (v w : ℕ) → IsReachable v → IsReachable w → v ≢ w → IsBeginning (spell v) (spell w) → ⊥

-- Secondaries are the common one, lead with 04 at most, or with 46 at least. The least lead is 02 forward, and 03
-- backward, where 02 parts segments
pub record AreSecondaries (least : ℕ) (IsReachable : ℕ → Type 0) : Type 0 where
  pub fits : (w : ℕ) → IsReachable w → w < 2 ^ 16
  pub leads : (w : ℕ) → IsReachable w → (w ≡ common_weight) ⊎ (((least ≤ w / 256) × (w / 256 ≤ 4)) ⊎ (0x46 ≤ w / 256))
  pub prefix_free : IsPrefixFree (weight_bytes 2) IsReachable

-- the least lead of secondaries that are written from the front
abbrev pub forward_least : ℕ
forward_least = 2

-- the least lead of secondaries of a backward level
abbrev pub backward_least : ℕ
backward_least = 3

-- the least lead of tertiaries as a form has them
abbrev pub least_tertiary_lead : TertiaryForm → ℕ
least_tertiary_lead WithoutCase = 0x02
least_tertiary_lead LowerFirst = 0x02
least_tertiary_lead UpperFirst = 0x42

-- the greatest lead of tertiaries as a form has them
abbrev pub greatest_tertiary_lead : TertiaryForm → ℕ
greatest_tertiary_lead WithoutCase = 0x3F
greatest_tertiary_lead LowerFirst = 0xBF
greatest_tertiary_lead UpperFirst = 0xFF

-- Tertiaries are the common one, or have another lead than it has
pub record AreTertiaries (form : TertiaryForm) (IsReachable : ℕ → Type 0) : Type 0 where
  pub least : (w : ℕ) → IsReachable w → least_tertiary_lead form ≤ w / 256
  pub greatest : (w : ℕ) → IsReachable w → w / 256 ≤ greatest_tertiary_lead form
  pub leads : (w : ℕ) → IsReachable w → w ≢ (tertiary_runs form).common → w / 256 ≢ (tertiary_runs form).common / 256
  pub prefix_free : IsPrefixFree (weight_bytes 2) IsReachable

-- Tertiaries as a form has them, where those without case bits are reachable. The two high bits are the case, lower 0,
-- mixed 1 and upper 2; with upper case first lower is 3, mixed 2 and upper 1, and what has no secondary is 3
abbrev pub IsCasedTertiary : TertiaryForm → (ℕ → Type 0) → ℕ → Type 0
IsCasedTertiary WithoutCase IsReachable w = IsReachable w
IsCasedTertiary LowerFirst IsReachable w = IsReachable (w % 0x4000) × (w / 0x4000 < 3)
IsCasedTertiary UpperFirst IsReachable w = IsReachable (w % 0x4000) × (0 < w / 0x4000) × (w / 0x4000 < 4)

-- Shifted primaries, after reordering, lead with 02 at least
pub record AreShifted (IsReachable : ℕ → Type 0) : Type 0 where
  pub fits : (w : ℕ) → IsReachable w → w < 256 ^ 4
  pub leads : (w : ℕ) → IsReachable w → 2 ≤ lead w
  pub prefix_free : IsPrefixFree (weight_bytes 4) IsReachable

-- ---- primaries, and weights of numbers among them

-- The bytes after the numeric lead in the first weight of a number. From 84 on the first of them counts pairs of
-- digits: then more of the number follows an odd last byte, and an even one ends it. Below 84 the weight is the whole
-- number
abbrev pub IsFirstPiece : List ℕ → Type 0
IsFirstPiece [] = ⊥
IsFirstPiece (b ∷ []) = b ≤ 75
IsFirstPiece (b ∷ (c ∷ [])) = ((76 ≤ b) × (b ≤ 115)) ⊎ ((132 ≤ b) × (c % 2 ≡ 0))
IsFirstPiece (b ∷ (c ∷ (d ∷ []))) = ((116 ≤ b) × (b ≤ 131)) ⊎ ((132 ≤ b) × (c % 2 ≡ 1))
IsFirstPiece (b ∷ (c ∷ (d ∷ (e ∷ bs)))) = ⊥

-- The bytes after the numeric lead in a further weight of a number: odd ones, and an even one where the number ends
abbrev pub IsFurtherPiece : List ℕ → Type 0
IsFurtherPiece [] = ⊥
IsFurtherPiece (b ∷ []) = b % 2 ≡ 0
IsFurtherPiece (b ∷ (c ∷ [])) = (b % 2 ≡ 1) × (c % 2 ≡ 0)
IsFurtherPiece (b ∷ (c ∷ (d ∷ []))) = (b % 2 ≡ 1) × (c % 2 ≡ 1)
IsFurtherPiece (b ∷ (c ∷ (d ∷ (e ∷ bs)))) = ⊥

-- a weight of a number: the numeric lead, and the bytes of a piece
pub record IsNumberWeight (numeric : ℕ) (IsPiece : List ℕ → Type 0) (w : ℕ) : Type 0 where
  pub fits : w < 256 ^ 4
  pub leads : lead w ≡ numeric
  pub piece : IsPiece (weight_bytes 3 (below_lead w))

-- what may stand outside a number, and inside one
abbrev pub MayStand : ℕ → (ℕ → Type 0) → Bool → ℕ → Type 0
MayStand numeric IsReachable false w = IsReachable w ⊎ IsNumberWeight numeric IsFirstPiece w
MayStand numeric IsReachable true w = IsNumberWeight numeric IsFurtherPiece w

-- whether more of a number follows the weight w, which stands inside a number or outside
abbrev pub goes_on : ℕ → Bool → ℕ → Bool
goes_on numeric inside w = lead w == numeric && (w % 2 == 1 && (inside || nat_le 132 (second_byte w)))

-- Primaries before reordering, each of which may stand where it is met: reachable ones, and weights of whole numbers
abbrev pub IsPrimaryList : ℕ → (ℕ → Type 0) → Bool → List ℕ → Type 0
IsPrimaryList numeric IsReachable inside [] = Unit {0}
IsPrimaryList numeric IsReachable inside (w ∷ ws) =
    MayStand numeric IsReachable inside w × IsPrimaryList numeric IsReachable (goes_on numeric inside w) ws

-- the lead that reordering gives the weights of numbers
abbrev pub number_lead : Compression → ℕ → ℕ
number_lead c numeric = lead (c.reorder (numeric * 256 ^ 3))

-- Reachable primaries lead with 02 at least, 02 being the merge separator's alone, and are prefix free after
-- reordering. The second byte of a compressible one is neither 03 or less nor FF, and one lead after reordering is
-- compressible for all or for none. Reordering changes leads alone, and keeps the weights of numbers apart from
-- reachable ones
pub record ArePrimaries (c : Compression) (numeric : ℕ) (IsReachable : ℕ → Type 0) : Type 0 where
  pub reordered_fits : (w : ℕ) → w < 256 ^ 4 → c.reorder w < 256 ^ 4
  pub lead_alone : (w : ℕ) → w < 256 ^ 4 → below_lead (c.reorder w) ≡ below_lead w
  pub fits : (w : ℕ) → IsReachable w → w < 256 ^ 4
  pub leads : (w : ℕ) → IsReachable w → 2 ≤ lead (c.reorder w)
  pub separator : (w : ℕ) → IsReachable w → lead (c.reorder w) ≡ 2 → c.reorder w ≡ 0x02000000
  pub prefix_free : (v w : ℕ) → IsReachable v → IsReachable w → c.reorder v ≢ c.reorder w
      → IsBeginning (weight_bytes 4 (c.reorder v)) (weight_bytes 4 (c.reorder w)) → ⊥
  pub seconds : (w : ℕ) → IsReachable w → c.is_compressible (lead w) ≡ true → (4 ≤ second_byte w) × (second_byte w ≤ 0xFE)
  pub alike : (v w : ℕ) → IsReachable v → IsReachable w → lead (c.reorder v) ≡ lead (c.reorder w)
      → c.is_compressible (lead v) ≡ c.is_compressible (lead w)
  pub not_numeric : (w : ℕ) → IsReachable w → lead w ≢ numeric
  pub numbers_together : (w : ℕ) → w < 256 ^ 4 → lead w ≡ numeric → lead (c.reorder w) ≡ number_lead c numeric
  pub numbers_apart : (w : ℕ) → IsReachable w → lead (c.reorder w) ≢ number_lead c numeric
  pub numbers_high : 3 ≤ number_lead c numeric
  pub numbers_whole : c.is_compressible numeric ≡ false

-- ---- cases and quaternaries

-- a rank of case: 0, 1 or 2
abbrev pub IsRank : ℕ → Type 0
IsRank rank = rank < 3

-- the common quaternary weight, or quaternary bits above it
abbrev pub IsUnshifted : ℕ → Type 0
IsUnshifted w = (2 ^ 32 ≤ w) × (w ≤ 2 ^ 32 + 3)

-- what stands in a quaternary list: a shifted primary or an unshifted weight
abbrev pub IsQuaternary : (ℕ → Type 0) → ℕ → Type 0
IsQuaternary IsReachable w = IsReachable w ⊎ IsUnshifted w
