-- The elements of a text as variable weighting leaves them, as code has them.
use Rattle.std.specs.Prelude.{◌<◌, ◌≡◌, List, [], ◌∷◌, Option, Some, None}
use Rattle.icu_order_texts.specs.weighting.Handled.{HandledElement, stayed, shifted_primary}
use Rattle.icu_order_texts.specs.declared.weighting.handled_element.Handled.{Handled}
use Rattle.icu_order_texts.specs.declared.weighting.handled_element.Handled.TheVariants.{Stayed, Shifted}

-- the element that code has
abbrev pub handled_as : Handled → HandledElement
handled_as (Stayed x) = stayed x
handled_as (Shifted p) = shifted_primary p

-- its case bits are lower, mixed or upper case
abbrev pub HasCase : HandledElement → Type 0
HasCase (stayed x) = x.lower < 0xC000
HasCase (shifted_primary p) = Unit {0}

-- of these elements the first is returned and the others are left, or there is none, and none is left
abbrev pub GivesNext : List HandledElement → Option Handled → List HandledElement → Type 0
GivesNext before (Some h) after = before ≡ handled_as h ∷ after
GivesNext before None after = (before ≡ []) × (after ≡ [])
