-- Where no rules come from.
use Rattle.std.specs.Prelude.{ℕ, List}

-- no tag has rules
abbrev pub have_none : List ℕ → List ℕ → Type 0
have_none tag rules = ⊥
