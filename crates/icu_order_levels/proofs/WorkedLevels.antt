-- Worked bytes of single levels: secondaries, tertiaries, cases, quaternaries, primaries, characters.
use Rattle.std.proofs.Common.{◌≡◌, ◌+◌, ◌^◌, [], ◌∷◌, ◌++◌, refl, replicate}
use Rattle.icu_order_levels.specs.Secondaries.{secondary_level, backward_level}
use Rattle.icu_order_levels.specs.Tertiaries.{tertiary_level}
use Rattle.icu_order_levels.specs.Cases.{case_level}
use Rattle.icu_order_levels.specs.Quaternaries.{quaternary_level}
use Rattle.icu_order_levels.specs.Identical.{identical_level}
use Rattle.icu_order_levels.specs.declared.forms.TertiaryForm.TheVariants.{UpperFirst as UpperFirstTertiary, WithoutCase}
use Rattle.icu_order_levels.specs.declared.forms.CaseForm.TheVariants.{LowerFirst, UpperFirst}
use Rattle.icu_order_levels.specs.declared.forms.QuaternaryForm.TheVariants.{MayShift, Unshifted}

-- ---- secondaries
full_count : secondary_level (replicate 33 0x500) ≡ 0x25 ∷ []
full_count = refl

past_full_count : secondary_level (replicate 34 0x500) ≡ 0x25 ∷ 0x05 ∷ []
past_full_count = refl

three_hundred : secondary_level (replicate 300 0x500) ≡ replicate 9 0x25 ++ 0x07 ∷ []
three_hundred = refl

greater_after_full_count : secondary_level (replicate 33 0x500 ++ 0x4600 ∷ 0x500 ∷ []) ≡ 0x25 ∷ 0x46 ∷ 0x05 ∷ []
greater_after_full_count = refl

greater_past_full_count : secondary_level (replicate 34 0x500 ++ 0x4600 ∷ []) ≡ 0x25 ∷ 0x45 ∷ 0x46 ∷ []
greater_past_full_count = refl

-- "á"
letter_and_mark : secondary_level (0x500 ∷ 0x4700 ∷ []) ≡ 0x45 ∷ 0x47 ∷ []
letter_and_mark = refl

None : secondary_level [] ≡ []
None = refl

-- backward: no segment but an empty one, and two empty ones
one_empty_segment : backward_level ([] ∷ []) ≡ []
one_empty_segment = refl

two_empty_segments : backward_level ([] ∷ [] ∷ []) ≡ 0x02 ∷ []
two_empty_segments = refl

-- ---- tertiaries: "A" beside "a" in each form
upper_without_case : tertiary_level WithoutCase (0x1C00 ∷ []) ≡ 0xDC ∷ []
upper_without_case = refl

upper_first_lower : tertiary_level UpperFirstTertiary (0xC500 ∷ []) ≡ 0x85 ∷ []
upper_first_lower = refl

upper_first_upper : tertiary_level UpperFirstTertiary (0x5C00 ∷ []) ≡ 0x1C ∷ []
upper_first_upper = refl

-- ---- cases, upper case first: 14 lower; two lower, an upper and 11 lower
fourteen_lower : case_level UpperFirst (replicate 14 2) ≡ 0xF3 ∷ []
fourteen_lower = refl

upper_among_lower : case_level UpperFirst (2 ∷ 2 ∷ 0 ∷ replicate 11 2) ≡ 0x41 ∷ 0xD0 ∷ []
upper_among_lower = refl

-- lower case first writes nothing for lower alone
lower_alone : case_level LowerFirst (replicate 20 0) ≡ []
lower_alone = refl

upper_after_lower : case_level LowerFirst (0 ∷ 2 ∷ []) ≡ 0xDF ∷ []
upper_after_lower = refl

-- ---- quaternaries: "a b" beside "ab"; nothing for common ones where none is shifted
shifted_space : quaternary_level MayShift (2 ^ 32 ∷ 0x03100000 ∷ 2 ^ 32 ∷ []) ≡ 0x1C ∷ 0x03 ∷ 0x10 ∷ 0x1C ∷ []
shifted_space = refl

none_shifted : quaternary_level MayShift (2 ^ 32 ∷ 2 ^ 32 ∷ []) ≡ 0x1D ∷ []
none_shifted = refl

high_lead : quaternary_level MayShift (0x1B100000 ∷ []) ≡ 0x1B ∷ 0x1B ∷ 0x10 ∷ []
high_lead = refl

above_common : quaternary_level MayShift (2 ^ 32 ∷ (2 ^ 32 + 3) ∷ []) ≡ 0xFC ∷ 0xFF ∷ []
above_common = refl

unshifted_common : quaternary_level Unshifted (2 ^ 32 ∷ 2 ^ 32 ∷ []) ≡ []
unshifted_common = refl

-- ---- characters
one_character : identical_level (0x61 ∷ []) ≡ 0x92 ∷ []
one_character = refl

two_characters : identical_level (0x61 ∷ 0x62 ∷ []) ≡ 0x92 ∷ 0x93 ∷ []
two_characters = refl

last_of_two_bytes : identical_level (0x29FB ∷ []) ≡ 0xFC ∷ 0x2C ∷ []
last_of_two_bytes = refl

first_of_three_bytes : identical_level (0x29FC ∷ []) ≡ 0xFC ∷ 0x2D ∷ 0x2D ∷ []
first_of_three_bytes = refl

first_ideograph : identical_level (0x4E00 ∷ []) ≡ 0xFC ∷ 0x51 ∷ 0x9D ∷ []
first_ideograph = refl

merge_before : identical_level (0xFFFE ∷ 0 ∷ 0 ∷ []) ≡ 0x02 ∷ 0x31 ∷ 0x31 ∷ []
merge_before = refl

merge_between : identical_level (0 ∷ 0xFFFE ∷ 0 ∷ []) ≡ 0x31 ∷ 0x02 ∷ 0x31 ∷ []
merge_between = refl

mixed_characters : identical_level (0x61 ∷ 0x301 ∷ 0x41 ∷ 0x62 ∷ 0x63 ∷ []) ≡ 0x92 ∷ 0xD4 ∷ 0xBA ∷ 0x2D ∷ 0xE8 ∷ 0x93 ∷ 0x94 ∷ []
mixed_characters = refl
