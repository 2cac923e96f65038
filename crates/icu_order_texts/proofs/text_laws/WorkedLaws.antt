-- Worked texts of the laws: numbers, decomposed texts with U+FFFE, runs of common weights.
use Rattle.std.proofs.Common.{true, ◌≡◌, ◌+◌, ◌/◌, ◌^◌, [], ◌∷◌, ◌++◌, length, refl, replicate, lit<, lit≤, Less, Equal, Greater}
use Rattle.icu_options.specs.declared.settings.Strength.TheVariants.{Primary, Quaternary, Identical}
use Rattle.icu_order_levels.specs.Identical.{identical_level}
use Rattle.icu_order_levels.specs.Numbers.{value_of}
use Rattle.icu_order_levels.specs.Quaternaries.{quaternary_level}
use Rattle.icu_order_levels.specs.Secondaries.{secondary_level}
use Rattle.icu_order_levels.specs.Tertiaries.{tertiary_level}
use Rattle.icu_order_levels.specs.declared.forms.QuaternaryForm.TheVariants.{MayShift, Unshifted}
use Rattle.icu_order_levels.specs.declared.forms.TertiaryForm.TheVariants.{WithoutCase}
use Rattle.icu_element_reading.specs.TextElements.{elements_of, number_elements}
use Rattle.icu_order_texts.specs.weighting.Collations.{Collation}
use Rattle.icu_order_texts.specs.TextOrder.{reading_by, text_order}
use Rattle.icu_order_texts.proofs.Computing.{icu_text_order}
use Rattle.icu_order_texts.proofs.WorkedSettings.{numeric_at, case_level_at, plain_at, mini}
use Rattle.icu_order_texts.specs.text_laws.IdenticalLaws.{decomposed_order}
use Rattle.icu_order_texts.specs.text_laws.NumberTexts.{IsDigitText, digits_in}

-- ---- numbers

-- "012"
of_digits : IsDigitText mini (48 ∷ 49 ∷ 50 ∷ [])
unfolding icu_text_order
of_digits = record {
  first = refl;
  characters = (
    record { continues = refl; starter = refl },
    (record { continues = refl; starter = refl }, (record { continues = refl; starter = refl }, tt)),
  );
  short = lit≤ tt;
}

its_value : value_of (digits_in mini (48 ∷ 49 ∷ 50 ∷ [])) ≡ 12
unfolding icu_text_order
its_value = refl

its_elements : elements_of (reading_by (numeric_at Primary mini)) (48 ∷ 49 ∷ 50 ∷ []) ≡ number_elements 0x0F (0 ∷ 1 ∷ 2 ∷ [])
unfolding icu_text_order
its_elements = refl

-- "9" and "012"
nine_and_twelve : text_order (numeric_at Primary mini) (57 ∷ []) (48 ∷ 49 ∷ 50 ∷ []) ≡ Less
unfolding icu_text_order
nine_and_twelve = refl

-- "12" and "012"
one_value : text_order (numeric_at Quaternary mini) (49 ∷ 50 ∷ []) (48 ∷ 49 ∷ 50 ∷ []) ≡ Equal
unfolding icu_text_order
one_value = refl

-- and where cases count as well
abbrev with_cases : Collation
with_cases = let c = case_level_at Primary mini in record c { settings = record c.settings { numeric = true } }

one_value_with_cases : text_order with_cases (49 ∷ 50 ∷ []) (48 ∷ 49 ∷ 50 ∷ []) ≡ Equal
unfolding icu_text_order
one_value_with_cases = refl

-- at the identical level first zeros count
one_value_at_identical : text_order (numeric_at Identical mini) (49 ∷ 50 ∷ []) (48 ∷ 49 ∷ 50 ∷ []) ≡ Greater
unfolding icu_text_order
one_value_at_identical = refl

-- as letters first zeros count too
as_letters : text_order (plain_at Primary mini) (57 ∷ []) (48 ∷ 49 ∷ 50 ∷ []) ≡ Greater
unfolding icu_text_order
as_letters = refl

-- ---- the identical level

-- U+FFFE and U+0000
lowest : decomposed_order (0xFFFE ∷ []) (0 ∷ []) ≡ Less
unfolding icu_text_order
lowest = refl

lowest_bytes : identical_level (0xFFFE ∷ []) ≡ 2 ∷ []
lowest_bytes = refl

next_bytes : identical_level (0 ∷ []) ≡ 0x31 ∷ []
next_bytes = refl

-- a acute, composed and in parts, and "a" alone
in_parts : decomposed_order (0xE1 ∷ []) (97 ∷ 0x301 ∷ []) ≡ Equal
unfolding icu_text_order
in_parts = refl

longer : decomposed_order (0xE1 ∷ []) (97 ∷ []) ≡ Greater
unfolding icu_text_order
longer = refl

-- ---- runs of common weights

many_secondaries : length (secondary_level (replicate 200 0x500)) ≡ 1 + 200 / 33
many_secondaries = refl

many_tertiaries : length (tertiary_level WithoutCase (replicate 200 0x500)) ≡ 1 + 200 / 97
many_tertiaries = refl

many_quaternaries : length (quaternary_level MayShift (replicate 200 (2 ^ 32))) ≡ 1 + 200 / 113
many_quaternaries = refl

-- no bytes for common quaternaries alone, where none may be shifted
no_bytes : quaternary_level Unshifted (replicate 200 (2 ^ 32)) ≡ []
no_bytes = refl

-- one more between others: a run of 33 in one byte, and of 34 in two
full_count : length (secondary_level (0x4600 ∷ replicate 33 0x500 ++ 0x4600 ∷ [])) ≡ 3
full_count = refl

past_full_count : length (secondary_level (0x4600 ∷ replicate 34 0x500 ++ 0x4600 ∷ [])) ≡ 4
past_full_count = refl
