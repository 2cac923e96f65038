-- How the weights of a level of two bytes are written, by their lead bytes (UTS #10, "Large Weight Values").
use Rattle.std.specs.Prelude.{ℕ, ◌≡◌, ◌≢◌, ◌<◌, ◌/◌, ◌%◌, ◌^◌, ◌==◌, if◌then◌else◌, List, slice_index_or}
use Rattle.icu_rule_weights.specs.declared.lead_use.LeadUse.{LeadUse}
use Rattle.icu_rule_weights.specs.declared.lead_use.LeadUse.TheVariants.{Free, Alone, Long}
use Rattle.icu_rule_weights.specs.LevelGaps.{HasSecondByte}

-- what the lead byte of a weight of the root is used for
unfoldable pub use_of : ℕ → LeadUse
use_of w = if w % 256 == 0 then Alone else Long

-- a weight has a second byte exactly if its lead byte is long
abbrev pub FitsUse : LeadUse → ℕ → Type 0
FitsUse Free w = w % 256 ≡ 0
FitsUse Alone w = w % 256 ≡ 0
FitsUse Long w = w % 256 ≢ 0

-- a weight is written as its lead byte is used
pub record IsWrittenBy (uses : List LeadUse) (w : ℕ) : Type 0 where
  pub some : 0 < w
  pub short : w < 2 ^ 16
  pub fits : FitsUse (slice_index_or uses (w / 256) Free) w

-- a weight of the root has its lead byte
pub record IsUsedBy (uses : List LeadUse) (w : ℕ) : Type 0 where
  pub some : 0 < w
  pub used : slice_index_or uses (w / 256) Free ≡ use_of w

-- lead bytes that weights of the root have keep their use
abbrev pub KeepUses : List LeadUse → List LeadUse → Type 0
KeepUses old new = (b : ℕ) → slice_index_or old b Free ≢ Free → slice_index_or new b Free ≡ slice_index_or old b Free

-- a weight with a lead byte, above a number
pub record IsNextOfLead (greatest : ℕ) (used : LeadUse) (lead last w : ℕ) : Type 0 where
  pub above : last < w
  pub leads : w / 256 ≡ lead
  pub fits : FitsUse used w
  pub second : HasSecondByte greatest w

-- a weight between two numbers, written as lead bytes are used
pub record IsNextWeight (greatest : ℕ) (uses : List LeadUse) (last high w : ℕ) : Type 0 where
  pub above : last < w
  pub below : w < high
  pub written : IsWrittenBy uses w
  pub second : HasSecondByte greatest w
