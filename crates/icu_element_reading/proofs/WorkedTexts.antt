-- Worked texts, computed by the definitions.
use Rattle.std.proofs.Common.{◌≡◌, ℕ, refl, List, [], ◌∷◌, not, ◌==◌, filter, map}
use Rattle.std.specs.List.{range_with_len}
use Rattle.unicode_normalization.specs.Forms.{nfd}
use Rattle.icu_table_entries.specs.Elements.{Element, of_primary, of_secondary}
use Rattle.icu_element_reading.specs.TextElements.{Reading, non_numeric_reading, elements_of}
use Rattle.icu_element_reading.proofs.Computing.{icu_elements}
use Rattle.icu_element_reading.proofs.WorkedReadings.{mini, sharp_s, kana, offsets, long_jamo, ring, hinted_ring, two_marks, prefixed, letter_before_prefix, numeric, lithuanian}

abbrev elements_in : Reading → List ℕ → List Element
elements_in reading text = elements_of reading (nfd text)

-- the nonzero primary weights
abbrev primaries_in : Reading → List ℕ → List ℕ
primaries_in reading text = filter (λ w. not (w == 0)) (map (λ (e : Element). e.primary) (elements_in reading text))

abbrev letter : ℕ → Element
letter lead = of_primary lead

abbrev diacritic : ℕ → Element
diacritic s = of_secondary s

-- á
composed_acute : elements_in (non_numeric_reading mini) (0xE1 ∷ []) ≡ letter 0x61100000 ∷ diacritic 0x4700 ∷ []
unfolding icu_elements
composed_acute = refl

-- the text in canonical decomposition
decomposed_acute : elements_in (non_numeric_reading mini) (97 ∷ 0x301 ∷ []) ≡ letter 0x61100000 ∷ diacritic 0x4700 ∷ []
unfolding icu_elements
decomposed_acute = refl

-- a syllable, read as its jamo
syllable : primaries_in (non_numeric_reading mini) (0xAC01 ∷ []) ≡ 0x65100000 ∷ 0x65710000 ∷ 0x66380000 ∷ []
unfolding icu_elements
syllable = refl

-- its first jamo as a list of the root
listed_jamo : primaries_in (non_numeric_reading long_jamo) (0xAC01 ∷ []) ≡ 0x65100000 ∷ 0x66900000 ∷ 0x65710000 ∷ 0x66380000 ∷ []
unfolding icu_elements
listed_jamo = refl

-- characters without an entry of their own
implicit : primaries_in (non_numeric_reading mini) (1 ∷ 0x4E00 ∷ []) ≡ 0xFE04021E ∷ 0xFE085F64 ∷ []
unfolding icu_elements
implicit = refl

-- sharp s, a list of two entries, the second with a tertiary weight of its own
listed_entries : elements_in (non_numeric_reading sharp_s) (0xDF ∷ []) ≡ letter 0x61580000 ∷ record { primary = 0x61580000; secondary = 0x500; lower = 0x600 } ∷ []
unfolding icu_elements
listed_entries = refl

-- a list of elements
listed_elements : primaries_in (non_numeric_reading kana) (0x3042 ∷ []) ≡ 0x67100000 ∷ []
unfolding icu_elements
listed_elements = refl

-- offset weights
offset : primaries_in (non_numeric_reading offsets) (0x3B1 ∷ 0x3B2 ∷ []) ≡ 0x7010FE00 ∷ 0x70110400 ∷ []
unfolding icu_elements
offset = refl

-- a ring that stands after another letter
past_a_starter : elements_in (non_numeric_reading ring) (97 ∷ 98 ∷ 0x30A ∷ []) ≡ letter 0x61100000 ∷ letter 0x61140000 ∷ diacritic 0x5000 ∷ []
unfolding icu_elements
past_a_starter = refl

-- a ring past a dot below
past_a_dot : elements_in (non_numeric_reading ring) (97 ∷ 0x323 ∷ 0x30A ∷ []) ≡ letter 0x62100000 ∷ diacritic 0x6900 ∷ []
unfolding icu_elements
past_a_dot = refl

-- a ring that a diaeresis blocks
blocked : elements_in (non_numeric_reading ring) (97 ∷ 0x308 ∷ 0x30A ∷ []) ≡ letter 0x61100000 ∷ diacritic 0x4E00 ∷ diacritic 0x5000 ∷ []
unfolding icu_elements
blocked = refl

-- the hints of a contraction decide nothing
hints_ignored : elements_in (non_numeric_reading hinted_ring) (97 ∷ 0x30A ∷ []) ≡ letter 0x62100000 ∷ []
unfolding icu_elements
hints_ignored = refl

-- a dot below and a ring, a mapping of two
two_joined : elements_in (non_numeric_reading two_marks) (97 ∷ 0x323 ∷ 0x30A ∷ []) ≡ letter 0x62300000 ∷ []
unfolding icu_elements
two_joined = refl

-- each mark consumed makes a mapping
cedilla_first : elements_in (non_numeric_reading two_marks) (97 ∷ 0x327 ∷ 0x323 ∷ 0x30A ∷ []) ≡ letter 0x62100000 ∷ diacritic 0x6D00 ∷ diacritic 0x6900 ∷ []
unfolding icu_elements
cedilla_first = refl

-- a dot below makes no mapping by itself
dot_and_diaeresis : elements_in (non_numeric_reading two_marks) (97 ∷ 0x323 ∷ 0x308 ∷ 0x30A ∷ []) ≡ letter 0x61100000 ∷ diacritic 0x6900 ∷ diacritic 0x4E00 ∷ diacritic 0x5000 ∷ []
unfolding icu_elements
dot_and_diaeresis = refl

-- c after "ab"
after_prefix_mapping : primaries_in (non_numeric_reading prefixed) (97 ∷ 98 ∷ 99 ∷ []) ≡ 0x61100000 ∷ 0x61140000 ∷ 0x611E0000 ∷ []
unfolding icu_elements
after_prefix_mapping = refl

-- c after "xb"
after_other : primaries_in (non_numeric_reading prefixed) (120 ∷ 98 ∷ 99 ∷ []) ≡ 0x616C0000 ∷ 0x61140000 ∷ 0x61180000 ∷ []
unfolding icu_elements
after_other = refl

-- c after the letter "ab": the characters of a contraction come before it too
after_contraction : primaries_in (non_numeric_reading letter_before_prefix) (97 ∷ 98 ∷ 99 ∷ []) ≡ 0x62100000 ∷ 0x611E0000 ∷ []
unfolding icu_elements
after_contraction = refl

-- c after "áb"
after_diacritic : primaries_in (non_numeric_reading prefixed) (0xE1 ∷ 98 ∷ 99 ∷ []) ≡ 0x61100000 ∷ 0x61140000 ∷ 0x61180000 ∷ []
unfolding icu_elements
after_diacritic = refl

-- a dot above before an acute is silent in Lithuanian
silent_dot : elements_in (lithuanian mini) (97 ∷ 0x307 ∷ 0x301 ∷ []) ≡ letter 0x61100000 ∷ diacritic 0x4700 ∷ []
unfolding icu_elements
silent_dot = refl

-- and before a circumflex is not
sounding_dot : elements_in (lithuanian mini) (97 ∷ 0x307 ∷ 0x302 ∷ []) ≡ letter 0x61100000 ∷ diacritic 0x4D00 ∷ diacritic 0x4800 ∷ []
unfolding icu_elements
sounding_dot = refl

-- the number 000
number_000 : primaries_in (numeric mini) (48 ∷ 48 ∷ 48 ∷ []) ≡ 0xF020000 ∷ []
unfolding icu_elements
number_000 = refl

-- the number 007
number_007 : primaries_in (numeric mini) (48 ∷ 48 ∷ 55 ∷ []) ≡ 0xF090000 ∷ []
unfolding icu_elements
number_007 = refl

-- the number 28
number_28 : primaries_in (numeric mini) (50 ∷ 56 ∷ []) ≡ 0xF1E0000 ∷ []
unfolding icu_elements
number_28 = refl

-- the number 73
number_73 : primaries_in (numeric mini) (55 ∷ 51 ∷ []) ≡ 0xF4B0000 ∷ []
unfolding icu_elements
number_73 = refl

-- the number 74
number_74 : primaries_in (numeric mini) (55 ∷ 52 ∷ []) ≡ 0xF4C0200 ∷ []
unfolding icu_elements
number_74 = refl

-- the number 10233
number_10233 : primaries_in (numeric mini) (49 ∷ 48 ∷ 50 ∷ 51 ∷ 51 ∷ []) ≡ 0xF73FF00 ∷ []
unfolding icu_elements
number_10233 = refl

-- the number 10234
number_10234 : primaries_in (numeric mini) (49 ∷ 48 ∷ 50 ∷ 51 ∷ 52 ∷ []) ≡ 0xF740202 ∷ []
unfolding icu_elements
number_10234 = refl

-- the number 1042489
number_1042489 : primaries_in (numeric mini) (49 ∷ 48 ∷ 52 ∷ 50 ∷ 52 ∷ 56 ∷ 57 ∷ []) ≡ 0xF83FFFF ∷ []
unfolding icu_elements
number_1042489 = refl

-- the number 1000000
number_1000000 : primaries_in (numeric mini) (49 ∷ 48 ∷ 48 ∷ 48 ∷ 48 ∷ 48 ∷ 48 ∷ []) ≡ 0xF8358B8 ∷ []
unfolding icu_elements
number_1000000 = refl

-- the number 1042490
number_1042490 : primaries_in (numeric mini) (49 ∷ 48 ∷ 52 ∷ 50 ∷ 52 ∷ 57 ∷ 48 ∷ []) ≡ 0xF840D13 ∷ 0xF3BBE00 ∷ []
unfolding icu_elements
number_1042490 = refl

-- the number 2000000
number_2000000 : primaries_in (numeric mini) (50 ∷ 48 ∷ 48 ∷ 48 ∷ 48 ∷ 48 ∷ 48 ∷ []) ≡ 0xF840E00 ∷ []
unfolding icu_elements
number_2000000 = refl

-- the number 10000000
number_10000000 : primaries_in (numeric mini) (49 ∷ 48 ∷ 48 ∷ 48 ∷ 48 ∷ 48 ∷ 48 ∷ 48 ∷ []) ≡ 0xF841E00 ∷ []
unfolding icu_elements
number_10000000 = refl

-- the number 10000001
number_10000001 : primaries_in (numeric mini) (49 ∷ 48 ∷ 48 ∷ 48 ∷ 48 ∷ 48 ∷ 48 ∷ 49 ∷ []) ≡ 0xF841F0B ∷ 0xF0B0C00 ∷ []
unfolding icu_elements
number_10000001 = refl

-- a mark after a run of digits
number_then_mark : primaries_in (numeric mini) (49 ∷ 50 ∷ 0x301 ∷ []) ≡ 0xF0E0000 ∷ []
unfolding icu_elements
number_then_mark = refl

-- a mark between two digits parts them
mark_between : primaries_in (numeric mini) (49 ∷ 0x301 ∷ 50 ∷ []) ≡ 0xF030000 ∷ 0xF040000 ∷ []
unfolding icu_elements
mark_between = refl

-- digits that are letters like others
digits_as_letters : primaries_in (non_numeric_reading mini) (49 ∷ 50 ∷ []) ≡ 0x14140000 ∷ 0x14180000 ∷ []
unfolding icu_elements
digits_as_letters = refl

-- 1 and 254 zeros: the last zero is a number of its own
long_number : primaries_in (numeric mini) (49 ∷ map (λ _. 48) (range_with_len 0 254)) ≡ 0x0FFF1E00 ∷ 0x0F020000 ∷ []
unfolding icu_elements
long_number = refl
