-- What is found in short texts, computed by the definitions. Offsets count characters.
use Rattle.std.proofs.Common.{◌≡◌, ℕ, true, List, [], ◌∷◌, refl}
use Rattle.std.specs.Prelude.{codes}
use Rattle.icu_options.specs.declared.settings.Strength.TheVariants.{Primary, Secondary, Tertiary, Quaternary, Identical}
use Rattle.icu_table_provider.specs.CollatorTables.{CollatorTables}
use Rattle.icu_element_reading.proofs.WorkedReadings.{ring, sharp_s}
use Rattle.icu_order_texts.specs.weighting.Collations.{Collation}
use Rattle.icu_order_texts.proofs.WorkedSettings.{plain_at, shifted_at, blanked_at, numeric_at, upper_first_at, case_level_at, mini, backward, spanish, prefixed, kana, with_secondary}
use Rattle.icu_search_places.specs.LeastMatches.{Span, span}
use Rattle.icu_search_places.specs.Searches.{Search, least, found}
use Rattle.icu_search_places.proofs.ComputedSearches.{icu_search}

-- a letter with a ring above is another letter, and sharp s expands to two letters
abbrev ringed : CollatorTables
ringed = record mini { tables = ring }

abbrev sharp : CollatorTables
sharp = record mini { tables = sharp_s }

-- between all places
abbrev search_for : Collation → List ℕ → Search
search_for c pattern = record { collation = c; pattern = pattern; allowed = λ _. true }

-- what is found of a pattern in a text, and all least matches
abbrev finds : Collation → List ℕ → List ℕ → List Span
finds c pattern text = found (search_for c pattern) text

abbrev overlapping : Collation → List ℕ → List ℕ → List Span
overlapping c pattern text = least (search_for c pattern) text

-- ---- letters and accents

-- "a" in "bab"
letter_inside : finds (plain_at Primary mini) (codes "a") (codes "bab") ≡ span 1 2 ∷ []
unfolding icu_search
letter_inside = refl

-- "ab" in "ABab"
upper_case_ties : finds (plain_at Primary mini) (codes "ab") (codes "ABab") ≡ span 0 2 ∷ span 2 4 ∷ []
unfolding icu_search
upper_case_ties = refl

-- "ab" in "ABab"
upper_case_differs : finds (plain_at Tertiary mini) (codes "ab") (codes "ABab") ≡ span 2 4 ∷ []
unfolding icu_search
upper_case_differs = refl

-- "resume" in "My r\u00E9sum\u00E9"
accents_ignored : finds (plain_at Primary mini) (codes "resume") (0x4D ∷ 0x79 ∷ 0x20 ∷ 0x72 ∷ 0xE9 ∷ 0x73 ∷ 0x75 ∷ 0x6D ∷ 0xE9 ∷ []) ≡ span 3 9 ∷ []
unfolding icu_search
accents_ignored = refl

-- "resume" in "My r\u00E9sum\u00E9"
accents_count : finds (plain_at Secondary mini) (codes "resume") (0x4D ∷ 0x79 ∷ 0x20 ∷ 0x72 ∷ 0xE9 ∷ 0x73 ∷ 0x75 ∷ 0x6D ∷ 0xE9 ∷ []) ≡ []
unfolding icu_search
accents_count = refl

-- "r\u00E9sum\u00E9" in "Re\u0301sume\u0301"
decomposed_text : finds (plain_at Secondary mini) (0x72 ∷ 0xE9 ∷ 0x73 ∷ 0x75 ∷ 0x6D ∷ 0xE9 ∷ []) (0x52 ∷ 0x65 ∷ 0x301 ∷ 0x73 ∷ 0x75 ∷ 0x6D ∷ 0x65 ∷ 0x301 ∷ []) ≡ span 0 8 ∷ []
unfolding icu_search
decomposed_text = refl

-- ---- overlapping and empty ones

-- "aa" in "aaaaa"
letter_twice : finds (plain_at Primary mini) (codes "aa") (codes "aaaaa") ≡ span 0 2 ∷ span 2 4 ∷ []
unfolding icu_search
letter_twice = refl

letter_twice_overlapping : overlapping (plain_at Primary mini) (codes "aa") (codes "aaaaa") ≡ span 0 2 ∷ span 1 3 ∷ span 2 4 ∷ span 3 5 ∷ []
unfolding icu_search
letter_twice_overlapping = refl

-- "aba" in "ababa"
overlapping_ends : finds (plain_at Primary mini) (codes "aba") (codes "ababa") ≡ span 0 3 ∷ []
unfolding icu_search
overlapping_ends = refl

overlapping_ends_overlapping : overlapping (plain_at Primary mini) (codes "aba") (codes "ababa") ≡ span 0 3 ∷ span 2 5 ∷ []
unfolding icu_search
overlapping_ends_overlapping = refl

-- "a" in ""
empty_text : finds (plain_at Primary mini) (codes "a") [] ≡ []
unfolding icu_search
empty_text = refl

-- "" in "ab"
empty_pattern : finds (plain_at Primary mini) [] (codes "ab") ≡ span 0 0 ∷ span 1 1 ∷ span 2 2 ∷ []
unfolding icu_search
empty_pattern = refl

-- ---- marks

-- "\u0301" in "ab"
ignorable_mark : finds (plain_at Primary mini) (0x301 ∷ []) (codes "ab") ≡ span 0 0 ∷ span 1 1 ∷ span 2 2 ∷ []
unfolding icu_search
ignorable_mark = refl

-- "\u0301" in "a\u0301"
mark_behind_letter : finds (plain_at Secondary mini) (0x301 ∷ []) (0x61 ∷ 0x301 ∷ []) ≡ []
unfolding icu_search
mark_behind_letter = refl

-- "\u0301" in "\u0301a"
mark_that_begins : finds (plain_at Secondary mini) (0x301 ∷ []) (0x301 ∷ 0x61 ∷ []) ≡ span 0 1 ∷ []
unfolding icu_search
mark_that_begins = refl

-- "a" in "a\u0301b"
letter_with_mark : finds (plain_at Primary mini) (codes "a") (0x61 ∷ 0x301 ∷ 0x62 ∷ []) ≡ span 0 2 ∷ []
unfolding icu_search
letter_with_mark = refl

-- "a" in "a\u0301b"
mark_not_cut_off : finds (plain_at Tertiary mini) (codes "a") (0x61 ∷ 0x301 ∷ 0x62 ∷ []) ≡ []
unfolding icu_search
mark_not_cut_off = refl

-- "\u00E1" in "a\u0301b"
composed_pattern : finds (plain_at Tertiary mini) (0xE1 ∷ []) (0x61 ∷ 0x301 ∷ 0x62 ∷ []) ≡ span 0 2 ∷ []
unfolding icu_search
composed_pattern = refl

-- "a\u0301" in "a\u0301\u0302"
second_mark_not_cut_off : finds (plain_at Tertiary mini) (0x61 ∷ 0x301 ∷ []) (0x61 ∷ 0x301 ∷ 0x302 ∷ []) ≡ []
unfolding icu_search
second_mark_not_cut_off = refl

-- "a\u0323\u0301" in "a\u0301\u0323"
marks_reordered : finds (plain_at Secondary mini) (0x61 ∷ 0x323 ∷ 0x301 ∷ []) (0x61 ∷ 0x301 ∷ 0x323 ∷ []) ≡ span 0 3 ∷ []
unfolding icu_search
marks_reordered = refl

-- "a\u0301\u0302" in "a\u0302\u0301"
marks_of_one_class : finds (plain_at Secondary mini) (0x61 ∷ 0x301 ∷ 0x302 ∷ []) (0x61 ∷ 0x302 ∷ 0x301 ∷ []) ≡ []
unfolding icu_search
marks_of_one_class = refl

-- ---- Hangul

-- "\u1100" in "\uAC00"
jamo_of_syllable : finds (plain_at Primary mini) (0x1100 ∷ []) (0xAC00 ∷ []) ≡ []
unfolding icu_search
jamo_of_syllable = refl

-- "\u1100" in "\u1100\u1161"
jamo_of_two : finds (plain_at Primary mini) (0x1100 ∷ []) (0x1100 ∷ 0x1161 ∷ []) ≡ []
unfolding icu_search
jamo_of_two = refl

-- "\uAC00" in "\uAC01"
syllable_of_longer_one : finds (plain_at Primary mini) (0xAC00 ∷ []) (0xAC01 ∷ []) ≡ []
unfolding icu_search
syllable_of_longer_one = refl

-- "\uAC00\u11A8" in "\uAC01"
syllable_and_final : finds (plain_at Primary mini) (0xAC00 ∷ 0x11A8 ∷ []) (0xAC01 ∷ []) ≡ span 0 1 ∷ []
unfolding icu_search
syllable_and_final = refl

-- ---- variable elements

-- "ab" in "a-b"
hyphen_inside : finds (shifted_at Primary mini) (codes "ab") (codes "a-b") ≡ span 0 3 ∷ []
unfolding icu_search
hyphen_inside = refl

-- "a" in "--a--"
hyphens_around : finds (shifted_at Primary mini) (codes "a") (codes "--a--") ≡ span 2 3 ∷ []
unfolding icu_search
hyphens_around = refl

-- "-a-" in "a b"
hyphens_in_pattern : finds (shifted_at Primary mini) (codes "-a-") (codes "a b") ≡ span 0 1 ∷ []
unfolding icu_search
hyphens_in_pattern = refl

-- "-" in "a-"
hyphen_alone : finds (shifted_at Primary mini) (codes "-") (codes "a-") ≡ span 0 0 ∷ span 1 1 ∷ span 2 2 ∷ []
unfolding icu_search
hyphen_alone = refl

-- "ab" in "a-b ab"
hyphen_at_quaternary : finds (shifted_at Quaternary mini) (codes "ab") (codes "a-b ab") ≡ span 4 6 ∷ []
unfolding icu_search
hyphen_at_quaternary = refl

-- "a-b" in "ab a-b a b"
hyphen_in_quaternary_pattern : finds (shifted_at Quaternary mini) (codes "a-b") (codes "ab a-b a b") ≡ span 3 6 ∷ []
unfolding icu_search
hyphen_in_quaternary_pattern = refl

-- "ab" in "a-b"
hyphen_blanked : finds (blanked_at Quaternary mini) (codes "ab") (codes "a-b") ≡ span 0 3 ∷ []
unfolding icu_search
hyphen_blanked = refl

-- "a" in "-\u034Fa"
ignorable_after_hyphen : finds (shifted_at Secondary with_secondary) (codes "a") (0x2D ∷ 0x34F ∷ 0x61 ∷ []) ≡ span 2 3 ∷ []
unfolding icu_search
ignorable_after_hyphen = refl

-- "\u034Fa" in "-\u034Fa"
ignorable_in_pattern : finds (shifted_at Secondary with_secondary) (0x34F ∷ 0x61 ∷ []) (0x2D ∷ 0x34F ∷ 0x61 ∷ []) ≡ span 1 3 ∷ []
unfolding icu_search
ignorable_in_pattern = refl

-- "ab" in "a\u034Fb"
ignorable_at_primary : finds (plain_at Primary with_secondary) (codes "ab") (0x61 ∷ 0x34F ∷ 0x62 ∷ []) ≡ span 0 3 ∷ []
unfolding icu_search
ignorable_at_primary = refl

-- "\u034Fa" in "\u034F-\u034Fa"
ignorable_before_hyphen : finds (shifted_at Secondary with_secondary) (0x34F ∷ 0x61 ∷ []) (0x34F ∷ 0x2D ∷ 0x34F ∷ 0x61 ∷ []) ≡ span 2 4 ∷ []
unfolding icu_search
ignorable_before_hyphen = refl

-- ---- contractions

-- "l" in "all"
half_of_contraction : finds (plain_at Primary spanish) (codes "l") (codes "all") ≡ []
unfolding icu_search
half_of_contraction = refl

-- "ll" in "all"
whole_contraction : finds (plain_at Primary spanish) (codes "ll") (codes "all") ≡ span 1 3 ∷ []
unfolding icu_search
whole_contraction = refl

-- "al" in "all"
across_contraction : finds (plain_at Primary spanish) (codes "al") (codes "all") ≡ []
unfolding icu_search
across_contraction = refl

-- "l" in "lll"
behind_contraction : finds (plain_at Primary spanish) (codes "l") (codes "lll") ≡ span 2 3 ∷ []
unfolding icu_search
behind_contraction = refl

-- "la" in "ala"
before_other_letter : finds (plain_at Primary spanish) (codes "la") (codes "ala") ≡ span 1 3 ∷ []
unfolding icu_search
before_other_letter = refl

-- "a" in "a\u030A"
letter_of_ring : finds (plain_at Primary ringed) (codes "a") (0x61 ∷ 0x30A ∷ []) ≡ []
unfolding icu_search
letter_of_ring = refl

-- "a" in "a\u0323\u030A"
letter_of_ring_behind_dot : finds (plain_at Primary ringed) (codes "a") (0x61 ∷ 0x323 ∷ 0x30A ∷ []) ≡ []
unfolding icu_search
letter_of_ring_behind_dot = refl

-- "\u00E5" in "a\u0323\u030A"
ring_behind_dot : finds (plain_at Primary ringed) (0xE5 ∷ []) (0x61 ∷ 0x323 ∷ 0x30A ∷ []) ≡ span 0 3 ∷ []
unfolding icu_search
ring_behind_dot = refl

-- "\u00E5" in "a\u0323\u030A"
ring_without_dot : finds (plain_at Secondary ringed) (0xE5 ∷ []) (0x61 ∷ 0x323 ∷ 0x30A ∷ []) ≡ []
unfolding icu_search
ring_without_dot = refl

-- ---- prefixes

-- "b" in "ab"
prefixed_letter_alone : finds (plain_at Primary prefixed) (codes "b") (codes "ab") ≡ span 1 2 ∷ []
unfolding icu_search
prefixed_letter_alone = refl

-- "ab" in "ab"
prefixed_letter_with_prefix : finds (plain_at Primary prefixed) (codes "ab") (codes "ab") ≡ span 0 2 ∷ []
unfolding icu_search
prefixed_letter_with_prefix = refl

-- "a" in "ab"
letter_before_prefixed : finds (plain_at Primary prefixed) (codes "a") (codes "ab") ≡ span 0 1 ∷ []
unfolding icu_search
letter_before_prefixed = refl

-- "bb" in "abb"
prefixed_letter_twice : finds (plain_at Primary prefixed) (codes "bb") (codes "abb") ≡ span 1 3 ∷ []
unfolding icu_search
prefixed_letter_twice = refl

-- ---- expansions

-- "ss" in "a\u00DFa"
expansion_in_text : finds (plain_at Primary sharp) (codes "ss") (0x61 ∷ 0xDF ∷ 0x61 ∷ []) ≡ span 1 2 ∷ []
unfolding icu_search
expansion_in_text = refl

-- "s" in "\u00DFs"
half_of_expansion : finds (plain_at Primary sharp) (codes "s") (0xDF ∷ 0x73 ∷ []) ≡ span 1 2 ∷ []
unfolding icu_search
half_of_expansion = refl

-- "ss" in "\u00DF"
expansion_at_tertiary : finds (plain_at Tertiary sharp) (codes "ss") (0xDF ∷ []) ≡ []
unfolding icu_search
expansion_at_tertiary = refl

-- "\u00DF" in "ss"
expansion_for_letters : finds (plain_at Primary sharp) (0xDF ∷ []) (codes "ss") ≡ span 0 2 ∷ []
unfolding icu_search
expansion_for_letters = refl

-- "\u00DF" in "ssss"
expansion_among_letters : finds (plain_at Primary sharp) (0xDF ∷ []) (codes "ssss") ≡ span 0 2 ∷ span 2 4 ∷ []
unfolding icu_search
expansion_among_letters = refl

expansion_among_letters_overlapping : overlapping (plain_at Primary sharp) (0xDF ∷ []) (codes "ssss") ≡ span 0 2 ∷ span 1 3 ∷ span 2 4 ∷ []
unfolding icu_search
expansion_among_letters_overlapping = refl

-- ---- numbers

-- "1" in "10 1"
half_of_number : finds (numeric_at Primary mini) (codes "1") (codes "10 1") ≡ span 3 4 ∷ []
unfolding icu_search
half_of_number = refl

-- "7" in "a007"
number_with_zeros : finds (numeric_at Primary mini) (codes "7") (codes "a007") ≡ span 1 4 ∷ []
unfolding icu_search
number_with_zeros = refl

-- "7" in "a007"
zeros_at_identical : finds (numeric_at Identical mini) (codes "7") (codes "a007") ≡ []
unfolding icu_search
zeros_at_identical = refl

-- "1" in "10"
digits_as_letters : finds (plain_at Primary mini) (codes "1") (codes "10") ≡ span 0 1 ∷ []
unfolding icu_search
digits_as_letters = refl

-- ---- cases

-- "a" in "aAa"
lower_case_by_level : finds (case_level_at Primary mini) (codes "a") (codes "aAa") ≡ span 0 1 ∷ span 2 3 ∷ []
unfolding icu_search
lower_case_by_level = refl

-- "A" in "aAa"
upper_case_by_level : finds (case_level_at Primary mini) (codes "A") (codes "aAa") ≡ span 1 2 ∷ []
unfolding icu_search
upper_case_by_level = refl

-- "A" in "aA"
upper_case_first : finds (upper_first_at Tertiary mini) (codes "A") (codes "aA") ≡ span 1 2 ∷ []
unfolding icu_search
upper_case_first = refl

-- ---- other levels

-- "a\u0301b\u0302" in "a\u0301b\u0302"
backward_whole : finds (plain_at Secondary backward) (0x61 ∷ 0x301 ∷ 0x62 ∷ 0x302 ∷ []) (0x61 ∷ 0x301 ∷ 0x62 ∷ 0x302 ∷ []) ≡ span 0 4 ∷ []
unfolding icu_search
backward_whole = refl

-- "\u00E1" in "a\u0301"
composed_at_identical : finds (plain_at Identical mini) (0xE1 ∷ []) (0x61 ∷ 0x301 ∷ []) ≡ span 0 2 ∷ []
unfolding icu_search
composed_at_identical = refl

-- "A" in "\u24B6A"
circled_at_identical : finds (plain_at Identical mini) (codes "A") (0x24B6 ∷ 0x41 ∷ []) ≡ span 1 2 ∷ []
unfolding icu_search
circled_at_identical = refl

-- "A" in "\u24B6A"
circled_at_tertiary : finds (plain_at Tertiary mini) (codes "A") (0x24B6 ∷ 0x41 ∷ []) ≡ span 1 2 ∷ []
unfolding icu_search
circled_at_tertiary = refl

-- "b" in "\uFFFEab\uFFFE"
between_separators : finds (plain_at Primary mini) (codes "b") (0xFFFE ∷ 0x61 ∷ 0x62 ∷ 0xFFFE ∷ []) ≡ span 2 3 ∷ []
unfolding icu_search
between_separators = refl

-- "\u3042" in "\u30A2\u3042"
kana_at_tertiary : finds (plain_at Tertiary kana) (0x3042 ∷ []) (0x30A2 ∷ 0x3042 ∷ []) ≡ span 0 1 ∷ span 1 2 ∷ []
unfolding icu_search
kana_at_tertiary = refl

-- "\u3042" in "\u30A2\u3042"
kana_at_quaternary : finds (plain_at Quaternary kana) (0x3042 ∷ []) (0x30A2 ∷ 0x3042 ∷ []) ≡ span 1 2 ∷ []
unfolding icu_search
kana_at_quaternary = refl
