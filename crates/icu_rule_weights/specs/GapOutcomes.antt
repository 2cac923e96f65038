-- What is found for gaps.
use Rattle.std.specs.Prelude.{ℕ, List}
use Rattle.std.specs.Global.{Vec}
use Rattle.icu_rule_weights.specs.declared.gap_numbers.GapNumbers.{GapNumbers}
use Rattle.icu_rule_weights.specs.declared.gap_numbers.GapNumbers.TheVariants.{Filled, NoRoom}

-- what holds of the weights, where each gap has its own
abbrev pub IfFilled : GapNumbers → (List (Vec ℕ) → Type 0) → Type 0
IfFilled (Filled lists) P = P lists.items
IfFilled (NoRoom place) P = Unit {0}

-- what holds of the place of a gap that has no room
abbrev pub IfNoRoom : GapNumbers → (ℕ → Type 0) → Type 0
IfNoRoom (Filled lists) P = Unit {0}
IfNoRoom (NoRoom place) P = P place
