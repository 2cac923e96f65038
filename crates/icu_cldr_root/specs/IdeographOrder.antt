-- The primary weights of ideographs, by the ranges that stand before all others and those that a line has (UTS #35 part
-- 5, "Root Collation Data Files").
use Rattle.std.specs.Prelude.{ℕ, ◌+◌, ◌-◌, ◌*◌, ◌/◌, ◌&&◌, nat_le, false, List, [], ◌∷◌, ◌++◌, Option, Some, None, option_map, if◌then◌else◌}
use Rattle.icu_table_entries.specs.Weights.{weight_at}
use Rattle.icu_cldr_root.specs.declared.ideograph_order.IdeographOrder.{IdeographOrder}
use Rattle.icu_cldr_root.specs.declared.ideographs.CharRange.{CharRange}
use Rattle.icu_cldr_root.specs.declared.line.Line.{Line}
use Rattle.icu_cldr_root.specs.declared.line.Line.TheVariants as says

-- how many characters ranges have
unfoldable pub ideograph_count : List CharRange → ℕ
ideograph_count [] = 0
ideograph_count (r ∷ rs) = (r.last + 1 - r.first) + ideograph_count rs

-- how many characters stand before one of them, in the order of the ranges
unfoldable pub ideographs_before : List CharRange → ℕ → Option ℕ
ideographs_before [] c = None
ideographs_before (r ∷ rs) c =
    if nat_le r.first c && nat_le c r.last then Some (c - r.first)
    else option_map (λ n. (r.last + 1 - r.first) + n) (ideographs_before rs c)

-- The lead byte of the first of so many ideographs. Each takes two of the weights of three bytes, of which a lead byte
-- has 254 times 254, and they end below the lead byte of implicit weights, with room for four more.
abbrev pub first_ideograph_lead : ℕ → ℕ
first_ideograph_lead count = 0xFE - ((2 * count + 3) / 64516 + 1)

-- the ordinal of the first one's weight among all weights of three bytes
abbrev pub first_ordinal : List CharRange → ℕ
first_ordinal ranges = 64516 * first_ideograph_lead (ideograph_count ranges)

-- the primary weight of an ideograph, if it is in these ranges
abbrev pub ideograph_weight : List CharRange → ℕ → Option ℕ
ideograph_weight ranges c = option_map (λ n. weight_at false (first_ordinal ranges + 2 * n)) (ideographs_before ranges c)

-- the ideographs that stand before all others
unfoldable pub first_ideographs : IdeographOrder → List CharRange
first_ideographs order = order.first.items

-- the ranges of ideographs that a line has, behind those that stand before all others
abbrev pub ranges_of : List CharRange → Line → List CharRange
ranges_of first (says.Ideographs ranges) = first ++ ranges.items
ranges_of first _ = []

-- those that lines have
unfoldable pub ideographs_of : List CharRange → List Line → List CharRange
ideographs_of first [] = []
ideographs_of first (line ∷ lines) = ranges_of first line ++ ideographs_of first lines
