-- Two lists of elements, gone through in step, if secondary weights are read from the end.
use Rattle.std.specs.Prelude.{◌≡◌, ℕ, List, [], ◌∷◌, Some, None, length, reverse}
use Rattle.std.specs.Ordering.{ordering_then}
use Rattle.std.specs.declared.cmp.Ordering.{Ordering}
use Rattle.icu_order_levels.specs.ListOrder.{list_order}
use Rattle.icu_order_levels.specs.declared.forms.KeyForm.{KeyForm}
use Rattle.icu_order_levels.specs.declared.forms.SecondaryForm.TheVariants.{Backward}
use Rattle.icu_order_levels.specs.declared.forms.TertiaryForm.{TertiaryForm}
use Rattle.icu_table_entries.specs.Elements.{Element}
use Rattle.icu_order_texts.specs.weighting.Handled.{HandledElement, stayed, stayed_elements}
use Rattle.icu_order_texts.specs.weighting.Levels.{parted}
use Rattle.icu_collator.specs.declared.forward_levels.Level.TheVariants.{Tertiary}
use Rattle.icu_collator.specs.inner.InStep.{order_on}

-- the secondary weights of elements up to the first merge separator, and those of each segment after one
abbrev pub parts : List HandledElement → List ℕ × List (List ℕ)
parts hs = parted (stayed_elements hs)

-- no merge separator parts these lists, and they have equally many secondary weights
pub record AreAsLong (hs ks : List HandledElement) : Type 0 where
  pub left : (parts hs).1 ≡ []
  pub right : (parts ks).1 ≡ []
  pub long : length (parts hs).0 ≡ length (parts ks).0

-- the order of their secondary weights from the end, and where it ties this one
abbrev pub order_from_end : Ordering → List HandledElement → List HandledElement → Ordering
order_from_end second hs ks = ordering_then (list_order (reverse (parts hs).0) (reverse (parts ks).0)) second

-- the order on the secondary level, backward, and on the tertiary one, if what came before has these orders
abbrev pub backward_order : TertiaryForm → Ordering → Ordering → List HandledElement → List HandledElement → Ordering
backward_order form second third hs ks =
    ordering_then (order_from_end second hs ks) (ordering_then third (order_on (Tertiary form) hs ks))

-- two elements have this order on the secondary level, and lists as long are so with them in front
abbrev pub SecondariesStep : Element → Element → Ordering → Type 0
SecondariesStep x y o = (hs ks : List HandledElement) (second : Ordering) → AreAsLong hs ks
    → AreAsLong (stayed x ∷ hs) (stayed y ∷ ks)
    × (order_from_end second (stayed x ∷ hs) (stayed y ∷ ks) ≡ order_from_end (ordering_then o second) hs ks)

-- these orders on the secondary and the tertiary level
abbrev pub StepsBackward : TertiaryForm → Element → Element → Ordering → Ordering → Type 0
StepsBackward form x y o t = (hs ks : List HandledElement) (second third : Ordering) → AreAsLong hs ks
    → AreAsLong (stayed x ∷ hs) (stayed y ∷ ks)
    × (backward_order form second third (stayed x ∷ hs) (stayed y ∷ ks)
    ≡ backward_order form (ordering_then o second) (ordering_then third t) hs ks)

-- secondary weights, backward, and tertiary ones are all that counts between the primary and the identical level
pub record IsBackward (form : KeyForm) (tertiary : TertiaryForm) : Type 0 where
  pub secondary : form.secondary ≡ Some Backward
  pub cases : form.cases ≡ None
  pub tertiaries : form.tertiary ≡ Some tertiary
  pub quaternary : form.quaternary ≡ None
