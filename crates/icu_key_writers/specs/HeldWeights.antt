-- A weight of one element before those of others.
use Rattle.std.specs.Prelude.{ℕ, ◌==◌, if◌then◌else◌, List, ◌∷◌}

-- a weight before others, unless it is 0
abbrev pub weight_before : ℕ → List ℕ → List ℕ
weight_before w ws = if w == 0 then ws else w ∷ ws
