-- The bytes of the secondary level, forward and backward (UTS #10, "Form Sort Keys"; UTS #35 part 5, "Setting Options"
-- on backwards).
use Rattle.std.specs.Prelude.{ℕ, List, [], ◌∷◌, ◌++◌}
use Rattle.icu_order_levels.specs.Runs.{level_bytes}
use Rattle.icu_order_levels.specs.WeightBytes.{weight_bytes}
use Rattle.icu_order_levels.specs.RunNumbers.{secondary_run_bytes}

-- the secondaries of a text, or of one reversed segment of it
abbrev pub secondary_level : List ℕ → List ℕ
secondary_level = level_bytes secondary_run_bytes (weight_bytes 2) 0

-- each segment's bytes after 02, the byte that parts segments
abbrev pub further_segments : List (List ℕ) → List ℕ
further_segments [] = []
further_segments (ws ∷ wss) = 2 ∷ (secondary_level ws ++ further_segments wss)

-- the segments of a backward level, each reversed already, with 02 between them
abbrev pub backward_level : List (List ℕ) → List ℕ
backward_level [] = []
backward_level (ws ∷ wss) = secondary_level ws ++ further_segments wss
