-- The primary weights of ideographs, which the file leaves to its reader.
use Rattle.std.specs.Prelude.{◌≡◌, ℕ, [], Option}
use Rattle.icu_cldr_root.specs.RangeWeights.{primary_among}
use Rattle.icu_cldr_root.specs.declared.ideograph_weights.IdeographWeights.{IdeographWeights}

-- the primary weight of an ideograph, if it is one of these
abbrev pub primary_in : IdeographWeights → ℕ → Option ℕ
primary_in ideographs c = primary_among ideographs.ranges.items c

-- there are none
abbrev pub HasNoIdeographs : IdeographWeights → Type 0
HasNoIdeographs ideographs = ideographs.ranges.items ≡ []
