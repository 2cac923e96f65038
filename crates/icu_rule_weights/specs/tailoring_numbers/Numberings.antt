-- The numbers of weights once rules are read (UTS #35 part 5, "Collation Tailorings").
use Rattle.std.specs.Prelude.{ℕ, ◌<◌, List, [], ◌∷◌, slice_index_or}
use Rattle.icu_rule_meaning.specs.declared.symbolic.SymbolicWeight.{SymbolicWeight}
use Rattle.icu_rule_meaning.specs.declared.symbolic.SymbolicWeight.TheVariants.{Rooted, Tailored}
use Rattle.icu_rule_meaning.specs.SymbolicOrders.{Numbering, IsOrderedBefore}
use Rattle.icu_rule_weights.specs.declared.tailoring_numbers.tailoring_numbers.TailoringNumbers.{TailoringNumbers}

-- the number of a weight: of one of the root its own, and 0 of one that has none
abbrev pub number_of : TailoringNumbers → SymbolicWeight → ℕ
number_of t (Rooted w) = w
number_of t (Tailored k) = slice_index_or t.numbers.items k 0

-- The number of the last of weights of levels one below another: since a tailored weight stands below the same weights
-- always, its number is that of the weight alone.
abbrev pub numbering_of : TailoringNumbers → Numbering
numbering_of t [] = 0
numbering_of t (w ∷ []) = number_of t w
numbering_of t (v ∷ w ∷ ws) = numbering_of t (w ∷ ws)

-- numbers ascend among siblings
abbrev pub AscendAmong : TailoringNumbers → List SymbolicWeight → Type 0
AscendAmong t siblings = (v w : SymbolicWeight) → IsOrderedBefore v w siblings → number_of t v < number_of t w
