-- A text's lists tie with themselves on each level before the identical one, whatever their characters.
use Rattle.std.proofs.Common.{◌≡◌, ℕ, List, Option, Some, None, Equal, refl}
use Rattle.icu_order_levels.specs.Keys.{LevelLists, secondaries_order, cases_order, tertiaries_order, quaternaries_order}
use Rattle.icu_order_levels.specs.declared.forms.CaseForm.{CaseForm}
use Rattle.icu_order_levels.specs.declared.forms.QuaternaryForm.{QuaternaryForm}
use Rattle.icu_order_levels.specs.declared.forms.SecondaryForm.{SecondaryForm}
use Rattle.icu_order_levels.specs.declared.forms.SecondaryForm.TheVariants.{Forward, Backward}
use Rattle.icu_order_levels.specs.declared.forms.TertiaryForm.{TertiaryForm}
use Rattle.icu_order_levels.proofs.Order.{same_lists_order}
use Rattle.icu_order_levels.proofs.KeepLemmas.{same_segments_order}

module _ (t : LevelLists) (cs : List ℕ) where
  pub own_secondaries : (f : Option SecondaryForm) → secondaries_order f t (record t { characters = cs }) ≡ Equal
  own_secondaries None = refl
  own_secondaries (Some Forward) = same_lists_order t.secondaries t.secondaries refl
  own_secondaries (Some Backward) = same_segments_order t.segments t.segments refl

  pub own_cases : (f : Option CaseForm) → cases_order f t (record t { characters = cs }) ≡ Equal
  own_cases None = refl
  own_cases (Some form) = same_lists_order t.cases t.cases refl

  pub own_tertiaries : (f : Option TertiaryForm) → tertiaries_order f t (record t { characters = cs }) ≡ Equal
  own_tertiaries None = refl
  own_tertiaries (Some form) = same_lists_order t.tertiaries t.tertiaries refl

  pub own_quaternaries : (f : Option QuaternaryForm) → quaternaries_order f t (record t { characters = cs }) ≡ Equal
  own_quaternaries None = refl
  own_quaternaries (Some form) = same_lists_order t.quaternaries t.quaternaries refl
