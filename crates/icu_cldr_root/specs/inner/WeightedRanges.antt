-- Ranges of ideographs with the ordinals of their weights.
use Rattle.std.specs.Prelude.{◌≡◌, ℕ, ◌+◌, ◌-◌, ◌*◌, List, [], ◌∷◌, ◌++◌}
use Rattle.icu_cldr_root.specs.IdeographOrder.{first_ordinal}
use Rattle.icu_cldr_root.specs.Ideographs.{HasNoIdeographs}
use Rattle.icu_cldr_root.specs.declared.ideograph_weights.IdeographWeights.{IdeographWeights}
use Rattle.icu_cldr_root.specs.declared.ideograph_weights.WeightedRange.{WeightedRange}
use Rattle.icu_cldr_root.specs.declared.ideographs.CharRange.{CharRange}
use Rattle.icu_cldr_root.specs.declared.line.Line.{Line}
use Rattle.icu_cldr_root.specs.declared.line.Line.TheVariants as says

-- ranges with the ordinals of their first weights, of which each character takes two
unfoldable pub weighted_from : ℕ → List CharRange → List WeightedRange
weighted_from ordinal [] = []
weighted_from ordinal (r ∷ rs) = record { range = r; ordinal = ordinal } ∷ weighted_from (ordinal + 2 * (r.last + 1 - r.first)) rs

-- the ideographs are those of these ranges, in their order
abbrev pub HasIdeographs : IdeographWeights → List CharRange → Type 0
HasIdeographs ideographs ranges = ideographs.ranges.items ≡ weighted_from (first_ordinal ranges) ranges

-- the ideographs of a line that has some, behind the first ones, are all that there are; any other line changes none
abbrev pub AddsIdeographs : List CharRange → IdeographWeights → IdeographWeights → Line → Type 0
AddsIdeographs first old new (says.Ideographs ranges) = HasNoIdeographs old × HasIdeographs new (first ++ ranges.items)
AddsIdeographs first old new _ = new ≡ old
