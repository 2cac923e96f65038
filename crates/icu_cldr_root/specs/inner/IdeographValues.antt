-- The entries of ideographs, and of other characters that no line maps, while lines are taken in.
use Rattle.std.specs.Prelude.{◌≡◌, ℕ, ◌&&◌, nat_le, nat_lt, Option, Some, None, MatchBool}
use Rattle.std.specs.Char.{IsScalar}
use Rattle.icu_table_data.specs.Data.{Data}
use Rattle.icu_cldr_root.specs.RangeWeights.{ideograph_weight_in}
use Rattle.icu_cldr_root.specs.Unmapped.{GivesWeight}
use Rattle.icu_cldr_root.specs.declared.ideograph_weights.WeightedRange.{WeightedRange}

-- the characters of a range below this one have their weights, and any other has what it had
abbrev pub SetsBelow : Data → Data → WeightedRange → ℕ → Type 0
SetsBelow old new w end = (x : ℕ) → IsScalar x
    → MatchBool (nat_le w.range.first x && nat_lt x end)
    (GivesWeight new (new.value x) x (ideograph_weight_in w x))
    (new.value x ≡ old.value x)

-- the characters of a range have their weights, and any other has what it had
abbrev pub SetsRange : Data → Data → WeightedRange → Type 0
SetsRange old new w = (x : ℕ) → IsScalar x
    → MatchBool (nat_le w.range.first x && nat_le x w.range.last)
    (GivesWeight new (new.value x) x (ideograph_weight_in w x))
    (new.value x ≡ old.value x)

-- a character has this weight, or, where there is none, what it had
abbrev pub GivesOrKeeps : Data → Data → ℕ → Option ℕ → Type 0
GivesOrKeeps old new c None = new.value c ≡ old.value c
GivesOrKeeps old new c (Some weight) = GivesWeight new (new.value c) c weight
