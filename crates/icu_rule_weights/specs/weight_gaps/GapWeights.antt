-- Weights that a tailoring puts between two weights of the root (UTS #10, "Large Weight Values").
use Rattle.std.specs.Prelude.{ℕ, ◌/◌, ◌%◌, ◌^◌, ◌<◌, ◌≤◌, ◌≡◌, nat_lt, if◌then◌else◌, List, [], ◌∷◌, length, Option, Some, None, All, AllPairs, Contains}
use Rattle.icu_order_levels.specs.ListOrder.{IsBeginning}
use Rattle.icu_order_levels.specs.Premises.{IsPrefixFree}
use Rattle.icu_order_levels.specs.WeightBytes.{weight_bytes}
use Rattle.icu_rule_weights.specs.declared.weight_gaps.byte_range.ByteRange.{ByteRange}
use Rattle.icu_rule_weights.specs.declared.weight_gaps.byte_range.WeightForm.{WeightForm}

-- a number of as many bytes as there are ranges, each byte in its range
abbrev pub HasBytesIn : List ByteRange → ℕ → Type 0
HasBytesIn [] w = w ≡ 0
HasBytesIn (r ∷ rs) w =
    let place = 256 ^ length rs in
    (r.least ≤ w / place) × (w / place ≤ r.greatest) × HasBytesIn rs (w % place)

-- no range is empty
abbrev pub AreOrderedRanges : List ByteRange → Type 0
AreOrderedRanges [] = Unit {0}
AreOrderedRanges (r ∷ rs) = (r.least ≤ r.greatest) × AreOrderedRanges rs

-- the bytes of a place that is written: all but 00 and 01
abbrev pub written_byte : ByteRange
written_byte = record { least = 2; greatest = 255 }

-- the zero byte of a place that isn't written
abbrev pub unwritten_byte : ByteRange
unwritten_byte = record { least = 0; greatest = 0 }

-- the bytes of a place of weights of so many bytes
abbrev pub place_range : ByteRange → ℕ → ℕ → ByteRange
place_range written place length = if nat_lt place length then written else unwritten_byte

-- the bytes at the four places of weights of so many bytes
abbrev pub byte_ranges : ByteRange → ℕ → List ByteRange
byte_ranges seconds length =
    place_range written_byte 0 length ∷ place_range seconds 1 length ∷ place_range written_byte 2 length
    ∷ place_range written_byte 3 length ∷ []

-- a weight has as many bytes as a form allows, each of them in its range
pub record IsOfForm (form : WeightForm) (w : ℕ) : Type 0 where
  pub length : ℕ
  pub long : form.shortest ≤ length
  pub short : length ≤ form.longest
  pub bytes : HasBytesIn (byte_ranges form.seconds length) w

-- one weight is less than another, and isn't written as a beginning of it
pub record IsClearBelow (v w : ℕ) : Type 0 where
  pub less : v < w
  pub begins_not : ¬ (IsBeginning (weight_bytes 4 v) (weight_bytes 4 w))

-- Weights of a form that may stand between two others: each is less than the next, and none of them all is written as
-- a beginning of a later one.
pub record FillsGap (form : WeightForm) (low high : ℕ) (ws : List ℕ) : Type 0 where
  pub of_form : All (IsOfForm form) ws
  pub above : All (IsClearBelow low) ws
  pub ascending : AllPairs IsClearBelow ws
  pub below : All (λ w. IsClearBelow w high) ws

-- of weights that fill a gap none is written as a beginning of another
abbrev pub FilledGapsArePrefixFree : Type 0
FilledGapsArePrefixFree = (form : WeightForm) (low high : ℕ) (ws : List ℕ) → FillsGap form low high ws
    → IsPrefixFree (weight_bytes 4) (Contains ws)

-- the least number with these bytes
pub record IsLeastOf (ranges : List ByteRange) (w : ℕ) : Type 0 where
  pub fits : w < 256 ^ length ranges
  pub bytes : HasBytesIn ranges w
  pub least : (v : ℕ) → HasBytesIn ranges v → w ≤ v

-- the least number with these bytes that is greater than another one
pub record IsNextAbove (ranges : List ByteRange) (bound w : ℕ) : Type 0 where
  pub fits : w < 256 ^ length ranges
  pub bytes : HasBytesIn ranges w
  pub above : bound < w
  pub least : (v : ℕ) → HasBytesIn ranges v → bound < v → w ≤ v

-- the least number with these bytes that is greater than another one, or none where there is none
abbrev pub IsLeastAbove : List ByteRange → ℕ → Option ℕ → Type 0
IsLeastAbove ranges bound None = (v : ℕ) → HasBytesIn ranges v → v ≤ bound
IsLeastAbove ranges bound (Some w) = IsNextAbove ranges bound w

-- no more weights of a form than so many may stand between two others
abbrev pub HoldsNoMore : WeightForm → ℕ → ℕ → ℕ → Type 0
HoldsNoMore form low high n = (ws : List ℕ) → FillsGap form low high ws → length ws ≤ n

-- numbers above the last one are clear of the weight below a gap, and of those in it
pub record IsPast (low : ℕ) (ws : List ℕ) (last : ℕ) : Type 0 where
  pub after_low : (w : ℕ) → w < 2 ^ 32 → last < w → IsClearBelow low w
  pub after_all : (w : ℕ) → w < 2 ^ 32 → last < w → All (λ v. IsClearBelow v w) ws

-- the least weight of so many bytes above the last one that may stand below another weight
pub record IsNextIn (seconds : ByteRange) (length last high w : ℕ) : Type 0 where
  pub next : IsNextAbove (byte_ranges seconds length) last w
  pub below : IsClearBelow w high

-- no weight of so many bytes above the last one may stand below another weight
abbrev pub HasNoNext : ByteRange → ℕ → ℕ → ℕ → Type 0
HasNoNext seconds length last high =
    (v : ℕ) → HasBytesIn (byte_ranges seconds length) v → last < v → ¬ (IsClearBelow v high)
