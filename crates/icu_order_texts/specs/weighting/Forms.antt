-- Which levels a collation names, in which form, and which elements are variable (UTS #35 part 5, "Setting Options").
use Rattle.std.specs.Prelude.{ℕ, Bool, true, false, Option, Some, None}
use Rattle.icu_options.specs.Metadata.{is_backward}
use Rattle.icu_options.specs.declared.settings.Strength.{Strength}
use Rattle.icu_options.specs.declared.settings.Strength.TheVariants.{Primary, Secondary, Tertiary, Quaternary, Identical}
use Rattle.icu_options.specs.declared.settings.AlternateHandling.{AlternateHandling}
use Rattle.icu_options.specs.declared.settings.AlternateHandling.TheVariants.{NonIgnorable, Shifted, Blanked}
use Rattle.icu_options.specs.declared.settings.CollationCaseFirst.{CollationCaseFirst}
use Rattle.icu_options.specs.declared.settings.CollationCaseFirst.TheVariants as case_first
use Rattle.icu_options.specs.declared.settings.MaxVariable.{MaxVariable}
use Rattle.icu_order_levels.specs.Primaries.{Compression}
use Rattle.icu_order_levels.specs.declared.forms.CaseForm.{CaseForm}
use Rattle.icu_order_levels.specs.declared.forms.CaseForm.TheVariants as cases
use Rattle.icu_order_levels.specs.declared.forms.KeyForm.{KeyForm}
use Rattle.icu_order_levels.specs.declared.forms.QuaternaryForm.{QuaternaryForm}
use Rattle.icu_order_levels.specs.declared.forms.QuaternaryForm.TheVariants.{MayShift, Unshifted}
use Rattle.icu_order_levels.specs.declared.forms.SecondaryForm.{SecondaryForm}
use Rattle.icu_order_levels.specs.declared.forms.SecondaryForm.TheVariants.{Forward, Backward}
use Rattle.icu_order_levels.specs.declared.forms.TertiaryForm.{TertiaryForm}
use Rattle.icu_order_levels.specs.declared.forms.TertiaryForm.TheVariants.{WithoutCase, LowerFirst, UpperFirst}
use Rattle.icu_table_provider.specs.SpecialPrimaries.{SpecialPrimaries, is_compressible, last_primary}
use Rattle.icu_table_provider.specs.CollatorTables.{CollatorTables, reorder}
use Rattle.icu_order_texts.specs.weighting.Collations.{Collation}

-- how the primaries of a collator are written
abbrev pub compression_of : CollatorTables → Compression
compression_of all = record { reorder = reorder all; is_compressible = is_compressible all.special }

-- ---- levels

-- the direction of the secondary level, by whether the metadata says that it is backward
abbrev pub direction : Bool → SecondaryForm
direction true = Backward
direction false = Forward

-- secondaries count from Secondary on, backward where the metadata says so
abbrev pub secondary_form : Strength → SecondaryForm → Option SecondaryForm
secondary_form Primary form = None
secondary_form Secondary form = Some form
secondary_form Tertiary form = Some form
secondary_form Quaternary form = Some form
secondary_form Identical form = Some form

-- the case level counts at each strength, where it is on
abbrev pub case_form : Bool → CollationCaseFirst → Option CaseForm
case_form false first = None
case_form true case_first.Upper = Some cases.UpperFirst
case_form true case_first.Lower = Some cases.LowerFirst
case_form true case_first.False = Some cases.LowerFirst

-- case bits count among tertiaries where case first is set and there is no case level
abbrev pub cased_form : Bool → CollationCaseFirst → TertiaryForm
cased_form true first = WithoutCase
cased_form false case_first.False = WithoutCase
cased_form false case_first.Lower = LowerFirst
cased_form false case_first.Upper = UpperFirst

-- tertiaries count from Tertiary on
abbrev pub tertiary_form : Strength → TertiaryForm → Option TertiaryForm
tertiary_form Primary form = None
tertiary_form Secondary form = None
tertiary_form Tertiary form = Some form
tertiary_form Quaternary form = Some form
tertiary_form Identical form = Some form

-- common quaternaries alone are written as nothing where no element is ignored, and as a run where variable ones are
-- shifted or blanked
abbrev pub handling_form : AlternateHandling → QuaternaryForm
handling_form NonIgnorable = Unshifted
handling_form Shifted = MayShift
handling_form Blanked = MayShift

-- quaternaries count from Quaternary on
abbrev pub quaternary_form : Strength → QuaternaryForm → Option QuaternaryForm
quaternary_form Primary form = None
quaternary_form Secondary form = None
quaternary_form Tertiary form = None
quaternary_form Quaternary form = Some form
quaternary_form Identical form = Some form

-- characters count at Identical
abbrev pub is_identical : Strength → Bool
is_identical Primary = false
is_identical Secondary = false
is_identical Tertiary = false
is_identical Quaternary = false
is_identical Identical = true

-- the levels that a collation names, and their forms
abbrev pub form_by : Collation → KeyForm
form_by c = record {
  secondary = secondary_form c.settings.strength (direction (is_backward c.tables.bits));
  cases = case_form c.settings.case_level c.settings.case_first;
  tertiary = tertiary_form c.settings.strength (cased_form c.settings.case_level c.settings.case_first);
  quaternary = quaternary_form c.settings.strength (handling_form c.settings.alternate_handling);
  identical = is_identical c.settings.strength;
}

-- ---- variable elements

-- the last primary of the groups that are variable, or 0 where none is
abbrev pub last_variable : SpecialPrimaries → AlternateHandling → MaxVariable → ℕ
last_variable special NonIgnorable group = 0
last_variable special Shifted group = last_primary special group
last_variable special Blanked group = last_primary special group

-- the last variable primary of a collation, or 0 where none is variable
abbrev pub last_variable_by : Collation → ℕ
last_variable_by c = last_variable c.tables.special c.settings.alternate_handling c.settings.max_variable
