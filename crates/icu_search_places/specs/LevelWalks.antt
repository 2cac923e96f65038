-- How the weights that a level has for a part of a text stand to those of a pattern, while the part grows.
use Rattle.std.specs.Prelude.{◌≡◌, ℕ, ◌≤◌, List, ◌++◌, Option, Some, None, length, take}
use Rattle.icu_table_entries.specs.Elements.{Element}
use Rattle.icu_order_texts.specs.level_weights.Weighings.{Weighing, element_weights, handled_weights, weighing_of}
use Rattle.icu_order_texts.specs.weighting.VariableWeightings.{handled_after}
use Rattle.icu_search_places.specs.declared.level_walks.PatternLevel.{PatternLevel}
use Rattle.icu_search_places.specs.declared.level_walks.LevelWalk.{LevelWalk}
use Rattle.icu_search_places.specs.declared.level_walks.LevelFit.{LevelFit}
use Rattle.icu_search_places.specs.declared.level_walks.LevelFit.TheVariants.{Unlike, Fewer, Same}

-- how a level weighs
abbrev pub weighing_at : PatternLevel → Weighing
weighing_at level = weighing_of level.weighing

-- the weights that it has for the pattern
abbrev pub weights_at : PatternLevel → List ℕ
weights_at level = level.weights.items

-- the level of a walk
abbrev pub walked_level : LevelWalk → PatternLevel
walked_level walk = walk.level.now

-- the weights of a part aren't a beginning of the pattern's
abbrev pub StartsUnlike : List ℕ → List ℕ → Type 0
StartsUnlike part pattern = (more : List ℕ) → part ++ more ≡ pattern → ⊥

-- How the weights of a part stand to a pattern's
abbrev pub Fits : List ℕ → List ℕ → LevelFit → Type 0
Fits part pattern Unlike = StartsUnlike part pattern
Fits part pattern Fewer = part ≡ pattern → ⊥
Fits part pattern Same = part ≡ pattern

-- so many of the pattern's weights are those of the part, or these aren't a beginning of the pattern's
abbrev pub MeetsWeights : List ℕ → List ℕ → Option ℕ → Type 0
MeetsWeights part pattern (Some n) = (n ≤ length pattern) × (take n pattern ≡ part)
MeetsWeights part pattern None = StartsUnlike part pattern

-- A walk has gone along these elements of a part: further elements have the weights that it has for them after these.
pub record HasGoneAlong (walk : LevelWalk) (es : List Element) : Type 0 where
  pub further : (xs : List Element) → element_weights (weighing_at (walked_level walk)) (es ++ xs)
      ≡ element_weights (weighing_at (walked_level walk)) es ++ handled_weights (weighing_at (walked_level walk)) (handled_after walk.handles xs)
  pub met : MeetsWeights (element_weights (weighing_at (walked_level walk)) es) (weights_at (walked_level walk)) walk.met
