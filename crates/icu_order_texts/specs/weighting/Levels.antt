-- The lists of weights that two texts are compared by, level by level (UTS #10, "Form Sort Keys"; UTS #35 part 5,
-- "Setting Options" and "Case Parameters").
use Rattle.std.specs.Prelude.{ℕ, ◌+◌, ◌-◌, ◌/◌, ◌^◌, ◌==◌, bit_and, bit_xor, List, [], ◌∷◌, Option, Some, None, if◌then◌else◌, map, reverse}
use Rattle.icu_order_levels.specs.Keys.{LevelLists}
use Rattle.icu_order_levels.specs.declared.forms.CaseForm.{CaseForm}
use Rattle.icu_order_levels.specs.declared.forms.CaseForm.TheVariants as cases
use Rattle.icu_order_levels.specs.declared.forms.KeyForm.{KeyForm}
use Rattle.icu_order_levels.specs.declared.forms.SecondaryForm.{SecondaryForm}
use Rattle.icu_order_levels.specs.declared.forms.TertiaryForm.{TertiaryForm}
use Rattle.icu_order_levels.specs.declared.forms.TertiaryForm.TheVariants.{WithoutCase, LowerFirst, UpperFirst}
use Rattle.icu_table_entries.specs.Elements.{Element, case_mask, tertiary_mask, quaternary_mask}
use Rattle.icu_table_entries.specs.ElementConditions.{separator_primary, tertiary_of}
use Rattle.icu_order_texts.specs.weighting.Handled.{HandledElement, stayed, shifted_primary, stayed_elements}

-- what a level has for each element that it reads something of
unfoldable pub weights : (reads has : Element → ℕ) → List Element → List ℕ
weights reads has [] = []
weights reads has (x ∷ xs) = if reads x == 0 then weights reads has xs else has x ∷ weights reads has xs

-- ---- primaries, before reordering

-- the primary of an element
abbrev pub primary_of : Element → ℕ
primary_of x = x.primary

-- the primaries of elements that have one
abbrev pub primaries : List Element → List ℕ
primaries es = weights primary_of primary_of es

-- ---- secondaries

-- the secondary of an element
abbrev pub secondary_of : Element → ℕ
secondary_of x = x.secondary

-- the secondaries of elements that have one
abbrev pub secondaries : List Element → List ℕ
secondaries es = weights secondary_of secondary_of es

-- the secondaries up to the first merge separator, and those of each segment after one: separators give none themselves
unfoldable pub parted : List Element → List ℕ × List (List ℕ)
parted [] = ([], [])
parted (x ∷ xs) =
    if x.primary == separator_primary then ([], (parted xs).0 ∷ (parted xs).1)
    else if x.secondary == 0 then parted xs
    else (x.secondary ∷ (parted xs).0, (parted xs).1)

-- backward: the segments in turn, each reversed
abbrev pub segments : List Element → List (List ℕ)
segments es = map reverse ((parted es).0 ∷ (parted es).1)

-- ---- cases

-- a case counts where the element has a weight of the last level before the case level
abbrev pub case_reads : Option SecondaryForm → Element → ℕ
case_reads None = primary_of
case_reads (Some form) = secondary_of

-- lower, mixed, upper ascend, or upper, mixed, lower
abbrev pub case_rank : CaseForm → Element → ℕ
case_rank cases.LowerFirst x = x.lower / 0x4000
case_rank cases.UpperFirst x = 2 - x.lower / 0x4000

-- the cases of elements, where there is the level
abbrev pub cases_in : Option SecondaryForm → Option CaseForm → List Element → List ℕ
cases_in before None es = []
cases_in before (Some form) es = weights (case_reads before) (case_rank form) es

-- ---- tertiaries

-- a lower half with its case bits and without its quaternary
abbrev pub cased_mask : ℕ
cased_mask = 0xFF3F

-- what a form reads of an element
abbrev pub masked_tertiary : TertiaryForm → Element → ℕ
masked_tertiary WithoutCase x = bit_and x.lower tertiary_mask
masked_tertiary LowerFirst x = bit_and x.lower cased_mask
masked_tertiary UpperFirst x = bit_and x.lower cased_mask

-- What a form has for an element that it reads something of. Upper case first inverts the case bits; an element with a
-- tertiary alone, whose case bits are 10, has 11 then, the greatest
abbrev pub tertiary_in : TertiaryForm → Element → ℕ
tertiary_in UpperFirst x =
    if x.secondary == 0 then masked_tertiary UpperFirst x + 0x4000 else bit_xor (masked_tertiary UpperFirst x) case_mask
tertiary_in WithoutCase x = masked_tertiary WithoutCase x
tertiary_in LowerFirst x = masked_tertiary LowerFirst x

-- the tertiaries of elements in a form
abbrev pub tertiaries : TertiaryForm → List Element → List ℕ
tertiaries form es = weights (masked_tertiary form) (tertiary_in form) es

-- the tertiaries of elements, where there is the level
abbrev pub tertiaries_in : Option TertiaryForm → List Element → List ℕ
tertiaries_in None es = []
tertiaries_in (Some form) es = tertiaries form es

-- ---- quaternaries

-- the quaternary bits, above all primaries
abbrev pub quaternary_weight : Element → ℕ
quaternary_weight x = 2 ^ 32 + bit_and x.lower quaternary_mask / 64

-- the weight of each element that stayed and has a tertiary, and the reordered primary of each that is shifted
unfoldable pub quaternaries : (ℕ → ℕ) → List HandledElement → List ℕ
quaternaries reorder [] = []
quaternaries reorder (stayed x ∷ hs) = if tertiary_of x == 0 then quaternaries reorder hs else quaternary_weight x ∷ quaternaries reorder hs
quaternaries reorder (shifted_primary p ∷ hs) = reorder p ∷ quaternaries reorder hs

-- ---- all levels

-- the lists of a text: of its elements as they were handled, and its decomposed characters
abbrev pub level_lists : (ℕ → ℕ) → KeyForm → List HandledElement → List ℕ → LevelLists
level_lists reorder form hs text = record {
  primaries = primaries (stayed_elements hs);
  secondaries = secondaries (stayed_elements hs);
  segments = segments (stayed_elements hs);
  cases = cases_in form.secondary form.cases (stayed_elements hs);
  tertiaries = tertiaries_in form.tertiary (stayed_elements hs);
  quaternaries = quaternaries reorder hs;
  characters = text;
}
