-- Two texts of which characters are read, gone through in step, where no element is variable.
use Rattle.std.specs.Prelude.{◌≡◌, ℕ, List, [], ◌∷◌, ◌++◌, Option, Some, None, map}
use Rattle.icu_element_cursor.specs.declared.facts_cursor.FactsCursor.{FactsCursor}
use Rattle.icu_element_cursor.specs.FactsCursors.{facts_give, facts_reading}
use Rattle.icu_element_reading.specs.boundaries.Places.{BeginsAtBoundary}
use Rattle.icu_order_texts.specs.weighting.Handled.{HandledElement, stayed}
use Rattle.icu_order_texts.specs.declared.weighting.handled_element.Handled.{Handled}
use Rattle.icu_collator.specs.inner.InStep.{from_first}
use Rattle.icu_collator.specs.inner.LevelWeights.{level_weights}
use Rattle.icu_collator.specs.declared.forward_levels.Level.{Level}

-- the elements that a cursor over characters gives after others, where none is variable
abbrev pub plain_left : {T : Type 0} → (T → List ℕ) → FactsCursor T → List ℕ → List HandledElement
plain_left text c before = map stayed (facts_give text c before)

-- whatever stands before, this element comes first, if there is one, and then what the cursor gives later
abbrev pub StepsOn : {T : Type 0} → (T → List ℕ) → FactsCursor T → Option Handled → FactsCursor T → Type 0
StepsOn text old next new = (before : List ℕ) → (after : List ℕ) × (plain_left text old before ≡ from_first next (plain_left text new after))

-- a weight, if there is one, and those after it: none where the list has ended
abbrev pub weights_from : Option ℕ → List ℕ → List ℕ
weights_from None ws = []
weights_from (Some w) ws = w ∷ ws

-- the weights of some elements are this one, if there is one, and then those of others
abbrev pub WeighsOn : Level → List HandledElement → Option ℕ → List HandledElement → Type 0
WeighsOn level hs next ks = level_weights level hs ≡ weights_from next (level_weights level ks)

-- two texts begin alike, and may be cut behind that, as two cursors read: these are their rests
pub record AreCut {T U : Type 0} (text : T → List ℕ) (other_text : U → List ℕ) (left : FactsCursor T) (right : FactsCursor U) (t : T) (u : U) (r : T) (s : U) : Type 0 where
  pub common : List ℕ
  pub left_parts : text t ≡ common ++ text r
  pub right_parts : other_text u ≡ common ++ other_text s
  pub left_cut : BeginsAtBoundary (facts_reading left) (text r)
  pub right_cut : BeginsAtBoundary (facts_reading right) (other_text s)

-- whatever stands before two cursors, the same elements come first of both, and then what they give later
abbrev pub PassesCommon : {T U : Type 0} → (T → List ℕ) → (U → List ℕ) → FactsCursor T → FactsCursor U → FactsCursor T → FactsCursor U → Type 0
PassesCommon text other_text left right one other =
    (b d : List ℕ) → (b' : List ℕ) × (d' : List ℕ) × (common : List HandledElement)
    × (plain_left text left b ≡ common ++ plain_left text one b')
    × (plain_left other_text right d ≡ common ++ plain_left other_text other d')
