-- Of each code the first of several ranges that has it.
use Rattle.std.specs.Prelude.{◌≡◌, ℕ, ◌+◌, List, Some, slice_get}
use Rattle.icu_cldr_root.specs.RangeWeights.{ideograph_weight_in, primary_among}
use Rattle.icu_cldr_root.specs.declared.ideograph_weights.WeightedRange.{WeightedRange}

-- a code whose place is a number has the weight by the range with this number, from 1 on
abbrev pub Finds : List ℕ → List WeightedRange → Type 0
Finds places ranges = (c n : ℕ) → slice_get places c ≡ Some (n + 1)
    → (w : WeightedRange) → slice_get ranges n ≡ Some w → primary_among ranges c ≡ Some (ideograph_weight_in w c)
