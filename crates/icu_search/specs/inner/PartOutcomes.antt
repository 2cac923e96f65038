-- What a walk is told of the part behind it.
use Rattle.std.specs.Prelude.{◌≡◌, ℕ, Bool, true, false, List}
use Rattle.unicode_normalization.specs.Forms.{nfd}
use Rattle.icu_element_reading.specs.TextElements.{elements_of}
use Rattle.icu_order_texts.specs.TextOrder.{reading_by}
use Rattle.icu_search_places.specs.Searches.{Search}
use Rattle.icu_search.specs.declared.part_outcome.PartOutcome.{PartOutcome}
use Rattle.icu_search.specs.declared.part_outcome.PartOutcome.TheVariants.{Matches, GoesOn, Ends}
use Rattle.icu_search.specs.declared.pattern_levels.PartLevels.{PartLevels}
use Rattle.icu_search.specs.inner.EqualParts.{ends_match}
use Rattle.icu_search.specs.inner.PartLevels.{HasGone, RulesOut}

-- A place ends the part, and the levels have gone along its elements.
pub record AreItsLevels (s : Search) (part : List ℕ) (here : Bool) (w : PartLevels) : Type 0 where
  pub place : here ≡ true
  pub gone : HasGone s w (elements_of (reading_by s.collation) (nfd part))

-- It matches, and a place ends it, or it doesn't match: a longer one may, or none does.
abbrev pub TellsOfPart : Search → List ℕ → ℕ → Bool → PartLevels → PartOutcome → Type 0
TellsOfPart s part stop here w Matches = (here ≡ true) × (ends_match s part stop ≡ true)
TellsOfPart s part stop here w GoesOn = AreItsLevels s part here w → ends_match s part stop ≡ false
TellsOfPart s part stop here w Ends =
    (here ≡ true) × (AreItsLevels s part here w → RulesOut s part × (ends_match s part stop ≡ false))
