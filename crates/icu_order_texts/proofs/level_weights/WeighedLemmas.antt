-- Elements that are weighed one after another.
use Rattle.std.proofs.Common.{◌≡◌, [], Option, Some, None, refl, ap, ◌∙◌}
use Rattle.icu_order_levels.specs.declared.forms.CaseForm.{CaseForm}
use Rattle.icu_order_levels.specs.declared.forms.KeyForm.{KeyForm}
use Rattle.icu_order_levels.specs.declared.forms.SecondaryForm.{SecondaryForm}
use Rattle.icu_order_levels.specs.declared.forms.TertiaryForm.{TertiaryForm}
use Rattle.icu_table_provider.specs.Reorderings.{Reordering}
use Rattle.icu_order_texts.specs.weighting.Handled.{handled}
use Rattle.icu_order_texts.specs.weighting.Levels.{cases_in, quaternaries, tertiaries_in, weights}
use Rattle.icu_order_texts.specs.weighting.VariableWeightings.{handled_after}
use Rattle.icu_order_texts.specs.declared.weighting.weighting.VariableWeighting.{VariableWeighting}
use Rattle.icu_order_texts.specs.level_weights.Weighings.{Weighing, handled_weights, level_list}
use Rattle.icu_order_texts.specs.declared.level_weights.order_level.OrderLevel.{OrderLevel}
use Rattle.icu_order_texts.specs.declared.level_weights.order_level.OrderLevel.TheVariants as levels

none_cased : (before : Option SecondaryForm) (form : Option CaseForm) → cases_in before form [] ≡ []
unfolding weights
none_cased before None = refl
none_cased before (Some form) = refl

none_tertiary : (form : Option TertiaryForm) → tertiaries_in form [] ≡ []
unfolding weights
none_tertiary None = refl
none_tertiary (Some form) = refl

none_listed : (l : OrderLevel) (f : KeyForm) (r : Option Reordering) → level_list l f r [] ≡ []
unfolding weights quaternaries
none_listed levels.Primary f r = refl
none_listed levels.Secondary f r = refl
none_listed levels.Case f r = none_cased f.secondary f.cases
none_listed levels.Tertiary f r = none_tertiary f.tertiary
none_listed levels.Quaternary f r = refl
none_listed levels.Identical f r = refl

none_handled : (v : VariableWeighting) → handled_after v [] ≡ []
unfolding handled
none_handled v = refl

-- no further elements have no weights
pub none_weighed : (w : Weighing) (v : VariableWeighting) → handled_weights w (handled_after v []) ≡ []
none_weighed w v = ap (handled_weights w) (none_handled v) ∙ none_listed w.level w.form w.reordering
