-- The marks that a text begins with.
use Rattle.std.specs.Prelude.{ℕ, List, [], ◌∷◌, if◌then◌else◌}
use Rattle.unicode_normalization.specs.Order.{is_starter}

-- the marks that stand before the first starter (Unicode Standard, D107)
unfoldable pub front_marks : List ℕ → List ℕ
front_marks [] = []
front_marks (c ∷ cs) = if is_starter c then [] else c ∷ front_marks cs

-- the first starter and all after it
unfoldable pub past_marks : List ℕ → List ℕ
past_marks [] = []
past_marks (c ∷ cs) = if is_starter c then c ∷ cs else past_marks cs
