-- Two lists of elements, gone through in step.
use Rattle.std.specs.Prelude.{◌≡◌, ◌≢◌, ℕ, List, [], ◌∷◌, Option, Some, None}
use Rattle.std.specs.Ordering.{ordering_then}
use Rattle.std.specs.declared.cmp.Ordering.{Ordering}
use Rattle.std.specs.declared.cmp.Ordering.TheVariants.{Equal}
use Rattle.icu_order_levels.specs.ListOrder.{list_order}
use Rattle.icu_order_levels.specs.declared.forms.KeyForm.{KeyForm}
use Rattle.icu_order_levels.specs.declared.forms.SecondaryForm.TheVariants.{Forward}
use Rattle.icu_order_levels.specs.declared.forms.TertiaryForm.{TertiaryForm}
use Rattle.icu_order_texts.specs.weighting.Handled.{HandledElement}
use Rattle.icu_order_texts.specs.declared.weighting.handled_element.Handled.{Handled}
use Rattle.icu_order_texts.specs.weighting.HandledSources.{handled_as}
use Rattle.icu_collator.specs.declared.forward_levels.Level.{Level}
use Rattle.icu_collator.specs.declared.forward_levels.Level.TheVariants.{Secondary, Tertiary}
use Rattle.icu_collator.specs.inner.LevelWeights.{weight_in, level_weights}

-- an element that was read, and what is left after it: none was read of a list that has ended
abbrev pub from_first : Option Handled → List HandledElement → List HandledElement
from_first None hs = []
from_first (Some h) hs = handled_as h ∷ hs

-- the order of two lists of elements on a level
unfoldable pub order_on : Level → List HandledElement → List HandledElement → Ordering
order_on level hs ks = list_order (level_weights level hs) (level_weights level ks)

-- the order on a level of two lists from these elements on
abbrev pub order_from : Level → Option Handled → Option Handled → List HandledElement → List HandledElement → Ordering
order_from level one other hs ks = order_on level (from_first one hs) (from_first other ks)

-- three levels, of which the first that differs decides
pub record ThreeLevels : Type 0 where
  pub first : Level
  pub second : Level
  pub third : Level

-- a level, the secondary one and the tertiary one
abbrev pub three_levels : Level → TertiaryForm → ThreeLevels
three_levels first form = record { first = first; second = Secondary; third = Tertiary form }

-- the order on three levels in turn, where what came before has this order on the third and ties on the others
abbrev pub three_order : ThreeLevels → Ordering → List HandledElement → List HandledElement → Ordering
three_order levels third hs ks =
    ordering_then (order_on levels.first hs ks) (
    ordering_then (order_on levels.second hs ks)
    (ordering_then third (order_on levels.third hs ks)))

-- elements that tie on the first two of three levels, and have this order on the third
pub record StepsBy (levels : ThreeLevels) (one other : Handled) (third : Ordering) : Type 0 where
  pub on_first : (hs ks : List HandledElement) → order_on levels.first (handled_as one ∷ hs) (handled_as other ∷ ks) ≡ order_on levels.first hs ks
  pub on_second : (hs ks : List HandledElement) → order_on levels.second (handled_as one ∷ hs) (handled_as other ∷ ks) ≡ order_on levels.second hs ks
  pub on_third : (hs ks : List HandledElement) → order_on levels.third (handled_as one ∷ hs) (handled_as other ∷ ks)
      ≡ ordering_then third (order_on levels.third hs ks)

-- two sources gave one element each, and those step so
abbrev pub StepBoth : ThreeLevels → Option Handled → Option Handled → Ordering → Type 0
StepBoth levels None other third = ⊥
StepBoth levels (Some one) None third = ⊥
StepBoth levels (Some one) (Some other) third = StepsBy levels one other third

-- a level has a weight for an element
abbrev pub HasWeight : Level → Handled → Type 0
HasWeight level h = (w : ℕ) × (weight_in level (handled_as h) ≡ Some w)

-- these elements decide on a level, whatever follows them
abbrev pub DecidesOn : Level → Option Handled → Option Handled → Ordering → Type 0
DecidesOn level one other o = (hs ks : List HandledElement) → (o ≡ order_from level one other hs ks) × (o ≢ Equal)

-- primary, secondary weights, forward, and tertiary ones are all that counts before the characters
pub record IsThreeLevel (form : KeyForm) (tertiary : TertiaryForm) : Type 0 where
  pub secondary : form.secondary ≡ Some Forward
  pub cases : form.cases ≡ None
  pub tertiaries : form.tertiary ≡ Some tertiary
  pub quaternary : form.quaternary ≡ None
