-- Least matches from an offset on, overlapping ones included.
use Rattle.std.specs.Prelude.{ℕ, nat_le, List, [], ◌∷◌, if◌then◌else◌}
use Rattle.icu_search_places.specs.LeastMatches.{Span}

-- of parts from left to right, those from the first one on that begins at an offset or after it
unfoldable pub beginning_at : ℕ → List Span → List Span
beginning_at offset [] = []
beginning_at offset (m ∷ later) = if nat_le offset m.start then m ∷ later else beginning_at offset later
