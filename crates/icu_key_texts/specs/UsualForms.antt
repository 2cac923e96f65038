-- The forms that keys mostly have.
use Rattle.std.specs.Prelude.{Bool, Option, Some, None}
use Rattle.icu_order_levels.specs.declared.forms.CaseForm.{CaseForm}
use Rattle.icu_order_levels.specs.declared.forms.CaseForm.TheVariants as cases
use Rattle.icu_order_levels.specs.declared.forms.KeyForm.{KeyForm}
use Rattle.icu_order_levels.specs.declared.forms.QuaternaryForm.{QuaternaryForm}
use Rattle.icu_order_levels.specs.declared.forms.QuaternaryForm.TheVariants as quaternaries
use Rattle.icu_order_levels.specs.declared.forms.SecondaryForm.{SecondaryForm}
use Rattle.icu_order_levels.specs.declared.forms.SecondaryForm.TheVariants.{Forward}
use Rattle.icu_order_levels.specs.declared.forms.TertiaryForm.{TertiaryForm}
use Rattle.icu_order_levels.specs.declared.forms.TertiaryForm.TheVariants as tertiaries
use Rattle.icu_key_texts.specs.declared.usual_forms.UsualForm.{UsualForm}
use Rattle.icu_key_texts.specs.declared.usual_forms.UsualForm.TheVariants.{Primary, Secondary, Tertiary, LowerFirst, UpperFirst, Quaternary, Unshifted, CaseLevel}

-- a form with these levels after the primary one, and the identical level where there is one
abbrev pub levels_form : Option SecondaryForm → Option CaseForm → Option TertiaryForm → Option QuaternaryForm → Bool → KeyForm
levels_form secondary cases tertiary quaternary identical =
    record { secondary = secondary; cases = cases; tertiary = tertiary; quaternary = quaternary; identical = identical }

-- the form of a key of usual form
abbrev pub form_of : UsualForm → Bool → KeyForm
form_of Primary identical = levels_form None None None None identical
form_of Secondary identical = levels_form (Some Forward) None None None identical
form_of Tertiary identical = levels_form (Some Forward) None (Some tertiaries.WithoutCase) None identical
form_of LowerFirst identical = levels_form (Some Forward) None (Some tertiaries.LowerFirst) None identical
form_of UpperFirst identical = levels_form (Some Forward) None (Some tertiaries.UpperFirst) None identical
form_of Quaternary identical = levels_form (Some Forward) None (Some tertiaries.WithoutCase) (Some quaternaries.MayShift) identical
form_of Unshifted identical = levels_form (Some Forward) None (Some tertiaries.WithoutCase) (Some quaternaries.Unshifted) identical
form_of CaseLevel identical = levels_form (Some Forward) (Some cases.LowerFirst) (Some tertiaries.WithoutCase) None identical

-- three levels, the second from the front, and the identical level where it is asked for
abbrev pub form_of_three : TertiaryForm → Bool → KeyForm
form_of_three t identical = levels_form (Some Forward) None (Some t) None identical
