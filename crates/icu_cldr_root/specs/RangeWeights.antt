-- The primary weights of the characters of ranges with ordinals.
use Rattle.std.specs.Prelude.{ℕ, ◌+◌, ◌-◌, ◌*◌, ◌&&◌, nat_le, false, List, [], ◌∷◌, Option, Some, None, if◌then◌else◌}
use Rattle.icu_table_entries.specs.Weights.{weight_at}
use Rattle.icu_cldr_root.specs.declared.ideograph_weights.WeightedRange.{WeightedRange}

-- the weight of a character of a range: three bytes, and every other of the weights of three bytes is an ideograph's
abbrev pub ideograph_weight_in : WeightedRange → ℕ → ℕ
ideograph_weight_in w c = weight_at false (w.ordinal + 2 * (c - w.range.first))

-- the weight of a character of one of these ranges
unfoldable pub primary_among : List WeightedRange → ℕ → Option ℕ
primary_among [] c = None
primary_among (w ∷ ws) c = if nat_le w.range.first c && nat_le c w.range.last then Some (ideograph_weight_in w c) else primary_among ws c
