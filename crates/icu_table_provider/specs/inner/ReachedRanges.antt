-- The ranges of a reordering that move some weight.
use Rattle.std.specs.Prelude.{ℕ, List, [], ◌∷◌, if◌then◌else◌}
use Rattle.icu_table_provider.specs.Reorderings.{lies_below}

-- those that move some weight from this one on: each ends above all before it
abbrev pub reached_from : ℕ → List ℕ → List ℕ
reached_from p [] = []
reached_from p (range ∷ ranges) = if lies_below p range then range ∷ reached_from range ranges else reached_from p ranges

-- those that move some weight
abbrev pub reached_ranges : List ℕ → List ℕ
reached_ranges ranges = reached_from 0 ranges
