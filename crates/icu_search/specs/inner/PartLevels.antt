-- What the weights of a part tell, level by level, beside those of a pattern.
use Rattle.std.specs.Prelude.{◌≡◌, ℕ, Bool, true, false, List, length, Option, Some, None, ⊤}
use Rattle.unicode_normalization.specs.Forms.{nfd}
use Rattle.icu_table_entries.specs.Elements.{Element}
use Rattle.icu_collator.specs.LevelWeighings.{weighing_by}
use Rattle.icu_element_reading.specs.TextElements.{elements_of}
use Rattle.icu_order_levels.specs.Keys.{LevelLists}
use Rattle.icu_order_levels.specs.CommonBeginnings.{HasFront}
use Rattle.icu_order_levels.specs.declared.forms.KeyForm.{KeyForm}
use Rattle.icu_order_levels.specs.declared.forms.SecondaryForm.{SecondaryForm}
use Rattle.icu_order_levels.specs.declared.forms.SecondaryForm.TheVariants.{Forward, Backward}
use Rattle.icu_order_texts.specs.level_weights.Weighings.{element_weights}
use Rattle.icu_order_texts.specs.declared.level_weights.order_level.OrderLevel.{OrderLevel}
use Rattle.icu_order_texts.specs.declared.level_weights.order_level.OrderLevel.TheVariants as levels
use Rattle.icu_order_texts.specs.weighting.Collations.{Collation}
use Rattle.icu_order_texts.specs.weighting.Forms.{form_by}
use Rattle.icu_order_texts.specs.TextOrder.{reading_by, lists_by}
use Rattle.icu_search_places.specs.LevelWalks.{HasGoneAlong, walked_level, weighing_at, weights_at}
use Rattle.icu_search_places.specs.Searches.{Search}
use Rattle.icu_search_places.specs.declared.level_walks.LevelFit.{LevelFit}
use Rattle.icu_search_places.specs.declared.level_walks.LevelFit.TheVariants.{Unlike, Fewer, Same}
use Rattle.icu_search_places.specs.declared.level_walks.LevelWalk.{LevelWalk}
use Rattle.icu_search_places.specs.declared.level_walks.PatternLevel.{PatternLevel}
use Rattle.icu_search.specs.declared.pattern_levels.PatternLevels.{PatternLevels}
use Rattle.icu_search.specs.declared.pattern_levels.PartLevels.{PartLevels}
use Rattle.icu_search.specs.inner.EqualParts.{equals_pattern}

-- secondaries are compared from the front
abbrev pub is_read_forward : Option SecondaryForm → Bool
is_read_forward (Some Forward) = true
is_read_forward (Some Backward) = false
is_read_forward None = false

-- a level is there
abbrev pub is_there : {A : Type 0} → Option A → Bool
is_there (Some form) = true
is_there None = false

-- weights are compared at a level from the front, one by one
abbrev pub level_is_compared : KeyForm → OrderLevel → Bool
level_is_compared f levels.Primary = true
level_is_compared f levels.Secondary = is_read_forward f.secondary
level_is_compared f levels.Case = is_there f.cases
level_is_compared f levels.Tertiary = is_there f.tertiary
level_is_compared f levels.Quaternary = is_there f.quaternary
level_is_compared f levels.Identical = false

-- the weights that a level has for a pattern
pub record IsLevelOf (c : Collation) (pattern : List ℕ) (l : OrderLevel) (level : PatternLevel) : Type 0 where
  pub weighing : weighing_at level ≡ weighing_by c l
  pub weights : weights_at level ≡ element_weights (weighing_by c l) (elements_of (reading_by c) (nfd pattern))

-- those of one of all levels, the identical one excepted, which has no weights
abbrev pub level_at : PatternLevels → OrderLevel → PatternLevel
level_at p levels.Primary = p.primary
level_at p levels.Secondary = p.secondary
level_at p levels.Case = p.case
level_at p levels.Tertiary = p.tertiary
level_at p levels.Quaternary = p.quaternary
level_at p levels.Identical = p.primary

-- those of the levels that count are the pattern's
pub record AreLevelsOf (c : Collation) (pattern : List ℕ) (p : PatternLevels) : Type 0 where
  pub form : p.form ≡ form_by c
  pub each : (l : OrderLevel) → level_is_compared (form_by c) l ≡ true → IsLevelOf c pattern l (level_at p l)

-- the walk along a part at a level
abbrev pub walk_at : PartLevels → OrderLevel → LevelWalk
walk_at w levels.Primary = w.primary
walk_at w levels.Secondary = w.secondary
walk_at w levels.Case = w.case
walk_at w levels.Tertiary = w.tertiary
walk_at w levels.Quaternary = w.quaternary
walk_at w levels.Identical = w.primary

-- at a level that counts, a walk has gone along these elements
pub record HasGoneAt (s : Search) (l : OrderLevel) (walk : LevelWalk) (es : List Element) : Type 0 where
  pub level : IsLevelOf s.collation s.pattern l (walked_level walk)
  pub walked : HasGoneAlong walk es

-- a walk has gone along these elements of a part
pub record HasGone (s : Search) (w : PartLevels) (es : List Element) : Type 0 where
  pub form : w.form ≡ form_by s.collation
  pub seen : w.seen ≡ length es
  pub each : (l : OrderLevel) → level_is_compared (form_by s.collation) l ≡ true → HasGoneAt s l (walk_at w l) es

-- no text whose lists begin with those of a part is equal to the pattern
abbrev pub RulesOut : Search → List ℕ → Type 0
RulesOut s part =
    (text : List ℕ) (rest : LevelLists) → HasFront (lists_by s.collation (nfd part)) (lists_by s.collation (nfd text)) rest
    → equals_pattern s text ≡ false

-- What is told of a part: it isn't equal to the pattern, nor is a longer one; it isn't; or nothing.
abbrev pub PartFits : Search → List ℕ → LevelFit → Type 0
PartFits s part Unlike = RulesOut s part × (equals_pattern s part ≡ false)
PartFits s part Fewer = equals_pattern s part ≡ false
PartFits s part Same = ⊤
