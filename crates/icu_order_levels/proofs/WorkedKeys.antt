-- Worked keys of whole texts, from their weight lists.
use Rattle.std.proofs.Common.{◌≡◌, ◌+◌, [], ◌∷◌, ◌++◌, refl, replicate}
use Rattle.icu_order_levels.specs.Keys.{key_bytes}
use Rattle.icu_order_levels.proofs.WorkedForms.{above_primaries, at_identical, at_primary, at_primary_with_case, at_primary_with_case_upper_first, at_quaternary, at_quaternary_shifted, at_secondary, at_secondary_backward, at_tertiary, at_tertiary_upper_first, at_tertiary_with_case_upper_first, split, swapped, texts, unmoved}

-- no text, primary
empty_primary : key_bytes unmoved at_primary (texts [] [] [] [] [] [] []) ≡ []
empty_primary = refl

-- no text, tertiary
empty_tertiary : key_bytes unmoved at_tertiary (texts [] [] [] [] [] [] []) ≡ 0x01 ∷ 0x01 ∷ 0x01 ∷ 0x01 ∷ []
empty_tertiary = refl

-- no text, identical
empty_identical : key_bytes unmoved at_identical (texts [] [] [] [] [] [] []) ≡ replicate 7 0x01
empty_identical = refl

-- "a"
a_tertiary : key_bytes unmoved at_tertiary (texts (0x61100000 ∷ []) (0x0500 ∷ []) [] [] (0x0500 ∷ []) [] [])
    ≡ 0x61 ∷ 0x10 ∷ 0x01 ∷ 0x05 ∷ 0x01 ∷ 0x01 ∷ 0x05 ∷ 0x01 ∷ []
a_tertiary = refl

-- "a", identical
a_identical : key_bytes unmoved at_identical (texts (0x61100000 ∷ []) (0x0500 ∷ []) [] [] (0x0500 ∷ []) (above_primaries ∷ []) (0x61 ∷ []))
    ≡ 0x61 ∷ 0x10 ∷ 0x01 ∷ 0x05 ∷ 0x01 ∷ 0x01 ∷ 0x05 ∷ 0x01 ∷ 0x01 ∷ 0x01 ∷ 0x01 ∷ 0x92 ∷ []
a_identical = refl

-- "ab"
ab_tertiary : key_bytes unmoved at_tertiary
    (texts (0x61100000 ∷ 0x61140000 ∷ []) (0x0500 ∷ 0x0500 ∷ []) [] [] (0x0500 ∷ 0x0500 ∷ []) [] [])
    ≡ 0x61 ∷ 0x10 ∷ 0x14 ∷ 0x01 ∷ 0x06 ∷ 0x01 ∷ 0x01 ∷ 0x06 ∷ 0x01 ∷ []
ab_tertiary = refl

-- "A"
upper_a_tertiary : key_bytes unmoved at_tertiary (texts (0x61100000 ∷ []) (0x0500 ∷ []) [] [] (0x1C00 ∷ []) [] [])
    ≡ 0x61 ∷ 0x10 ∷ 0x01 ∷ 0x05 ∷ 0x01 ∷ 0x01 ∷ 0xDC ∷ 0x01 ∷ []
upper_a_tertiary = refl

-- "a" with an acute
a_acute_tertiary : key_bytes unmoved at_tertiary (texts (0x61100000 ∷ []) (0x0500 ∷ 0x4700 ∷ []) [] [] (0x0500 ∷ 0x0500 ∷ []) [] [])
    ≡ 0x61 ∷ 0x10 ∷ 0x01 ∷ 0x45 ∷ 0x47 ∷ 0x01 ∷ 0x01 ∷ 0x06 ∷ 0x01 ∷ []
a_acute_tertiary = refl

-- "áAbc", identical
mixed_identical : key_bytes unmoved at_identical
    (texts (0x61100000 ∷ 0x61100000 ∷ 0x61140000 ∷ 0x61180000 ∷ []) (0x0500 ∷ 0x4700 ∷ 0x0500 ∷ 0x0500 ∷ 0x0500 ∷ []) [] []
    (0x0500 ∷ 0x0500 ∷ 0x1C00 ∷ 0x0500 ∷ 0x0500 ∷ []) (replicate 5 above_primaries) (0x61 ∷ 0x0301 ∷ 0x41 ∷ 0x62 ∷ 0x63 ∷ []))
    ≡ 0x61 ∷ 0x10 ∷ 0x10 ∷ 0x14 ∷ 0x18 ∷ 0x01 ∷ 0x45 ∷ 0x47 ∷ 0x07 ∷ 0x01 ∷ 0x01 ∷ 0xC4 ∷ 0xDC ∷ 0x06 ∷ 0x01 ∷ 0x01 ∷ 0x01 ∷ 0x01 ∷ 0x92 ∷
    0xD4 ∷ 0xBA ∷ 0x2D ∷ 0xE8 ∷ 0x93 ∷ 0x94 ∷ []
mixed_identical = refl

-- 300 times "a"
three_hundred_a : key_bytes unmoved at_secondary (texts (replicate 300 0x61100000) (replicate 300 0x0500) [] [] [] [] [])
    ≡ 0x61 ∷ (replicate 300 0x10 ++ (0x01 ∷ (replicate 9 0x25 ++ (0x07 ∷ 0x01 ∷ []))))
three_hundred_a = refl

-- 33 times "a": one middle byte
full_count_of_a : key_bytes unmoved at_secondary (texts (replicate 33 0x61100000) (replicate 33 0x0500) [] [] [] [] [])
    ≡ 0x61 ∷ (replicate 33 0x10 ++ (0x01 ∷ 0x25 ∷ 0x01 ∷ []))
full_count_of_a = refl

-- 34 times "a"
past_full_count_of_a : key_bytes unmoved at_secondary (texts (replicate 34 0x61100000) (replicate 34 0x0500) [] [] [] [] [])
    ≡ 0x61 ∷ (replicate 34 0x10 ++ (0x01 ∷ 0x25 ∷ 0x05 ∷ 0x01 ∷ []))
past_full_count_of_a = refl

-- 34 times "a", a grave after the 33rd
grave_after_33 : key_bytes unmoved at_secondary
    (texts (replicate 34 0x61100000) (replicate 33 0x0500 ++ (0x4600 ∷ 0x0500 ∷ [])) [] [] [] [] [])
    ≡ 0x61 ∷ (replicate 34 0x10 ++ (0x01 ∷ 0x25 ∷ 0x46 ∷ 0x05 ∷ 0x01 ∷ []))
grave_after_33 = refl

-- 34 times "a", a grave after the 34th
grave_after_34 : key_bytes unmoved at_secondary (texts (replicate 34 0x61100000) (replicate 34 0x0500 ++ (0x4600 ∷ [])) [] [] [] [] [])
    ≡ 0x61 ∷ (replicate 34 0x10 ++ (0x01 ∷ 0x25 ∷ 0x45 ∷ 0x46 ∷ 0x01 ∷ []))
grave_after_34 = refl

-- 97 times "a", then "A"
upper_after_97 : key_bytes unmoved at_tertiary
    (texts (replicate 98 0x61100000) (replicate 98 0x0500) [] [] (replicate 97 0x0500 ++ (0x1C00 ∷ [])) [] [])
    ≡ 0x61 ∷ (replicate 98 0x10 ++ (0x01 ∷ 0x25 ∷ 0x25 ∷ 0x24 ∷ 0x01 ∷ 0x01 ∷ 0x65 ∷ 0xDC ∷ 0x01 ∷ []))
upper_after_97 = refl

-- 98 times "a", then "A"
upper_after_98 : key_bytes unmoved at_tertiary
    (texts (replicate 99 0x61100000) (replicate 99 0x0500) [] [] (replicate 98 0x0500 ++ (0x1C00 ∷ [])) [] [])
    ≡ 0x61 ∷ (replicate 99 0x10 ++ (0x01 ∷ 0x25 ∷ 0x25 ∷ 0x25 ∷ 0x01 ∷ 0x01 ∷ 0x65 ∷ 0xC5 ∷ 0xDC ∷ 0x01 ∷ []))
upper_after_98 = refl

-- "a b", shifted
a_space_b_shifted : key_bytes unmoved at_quaternary_shifted
    (texts (0x61100000 ∷ 0x61140000 ∷ []) (0x0500 ∷ 0x0500 ∷ []) [] [] (0x0500 ∷ 0x0500 ∷ [])
    (above_primaries ∷ 0x03100000 ∷ above_primaries ∷ []) [])
    ≡ 0x61 ∷ 0x10 ∷ 0x14 ∷ 0x01 ∷ 0x06 ∷ 0x01 ∷ 0x01 ∷ 0x06 ∷ 0x01 ∷ 0x01 ∷ 0x1C ∷ 0x03 ∷ 0x10 ∷ 0x1C ∷ 0x01 ∷ []
a_space_b_shifted = refl

-- "ab", shifted
ab_shifted : key_bytes unmoved at_quaternary_shifted
    (texts (0x61100000 ∷ 0x61140000 ∷ []) (0x0500 ∷ 0x0500 ∷ []) [] [] (0x0500 ∷ 0x0500 ∷ []) (above_primaries ∷ above_primaries ∷ []) [])
    ≡ 0x61 ∷ 0x10 ∷ 0x14 ∷ 0x01 ∷ 0x06 ∷ 0x01 ∷ 0x01 ∷ 0x06 ∷ 0x01 ∷ 0x01 ∷ 0x1D ∷ 0x01 ∷ []
ab_shifted = refl

-- "a$b", shifted, the dollar with a lead above 1A
dollar_shifted : key_bytes unmoved at_quaternary_shifted
    (texts (0x61100000 ∷ 0x61140000 ∷ []) (0x0500 ∷ 0x0500 ∷ []) [] [] (0x0500 ∷ 0x0500 ∷ [])
    (above_primaries ∷ 0x1E100000 ∷ above_primaries ∷ []) [])
    ≡ 0x61 ∷ 0x10 ∷ 0x14 ∷ 0x01 ∷ 0x06 ∷ 0x01 ∷ 0x01 ∷ 0x06 ∷ 0x01 ∷ 0x01 ∷ 0x1C ∷ 0x1B ∷ 0x1E ∷ 0x10 ∷ 0x1C ∷ 0x01 ∷ []
dollar_shifted = refl

-- "a10b", numbers on
a10b : key_bytes unmoved at_primary (texts (0x61100000 ∷ 0x0F0C0000 ∷ 0x61140000 ∷ []) (0x0500 ∷ 0x0500 ∷ 0x0500 ∷ []) [] [] [] [] [])
    ≡ 0x61 ∷ 0x10 ∷ 0x03 ∷ 0x0F ∷ 0x0C ∷ 0x61 ∷ 0x14 ∷ []
a10b = refl

-- "a2b", numbers on
a2b : key_bytes unmoved at_primary (texts (0x61100000 ∷ 0x0F040000 ∷ 0x61140000 ∷ []) (0x0500 ∷ 0x0500 ∷ 0x0500 ∷ []) [] [] [] [] [])
    ≡ 0x61 ∷ 0x10 ∷ 0x03 ∷ 0x0F ∷ 0x04 ∷ 0x61 ∷ 0x14 ∷ []
a2b = refl

-- "1042489"
last_of_three : key_bytes unmoved at_primary (texts (0x0F83FFFF ∷ []) (0x0500 ∷ []) [] [] [] [] []) ≡ 0x0F ∷ 0x83 ∷ 0xFF ∷ 0xFF ∷ []
last_of_three = refl

-- "1042490"
first_great : key_bytes unmoved at_primary (texts (0x0F840D13 ∷ 0x0F3BBE00 ∷ []) (0x0500 ∷ 0x0500 ∷ []) [] [] [] [] [])
    ≡ 0x0F ∷ 0x84 ∷ 0x0D ∷ 0x13 ∷ 0x0F ∷ 0x3B ∷ 0xBE ∷ []
first_great = refl

-- "1" and 254 zeros
one_and_zeros : key_bytes unmoved at_primary (texts (0x0FFF1E00 ∷ 0x0F020000 ∷ []) (0x0500 ∷ 0x0500 ∷ []) [] [] [] [] [])
    ≡ 0x0F ∷ 0xFF ∷ 0x1E ∷ 0x0F ∷ 0x02 ∷ []
one_and_zeros = refl

-- 14 times "a", upper case first
fourteen_lower : key_bytes unmoved at_primary_with_case_upper_first
    (texts (replicate 14 0x61100000) (replicate 14 0x0500) [] (replicate 14 2) [] [] []) ≡ 0x61 ∷ (replicate 14 0x10 ++ (0x01 ∷ 0xF3 ∷ []))
fourteen_lower = refl

-- "aaA" and 11 times "a", upper case first
upper_among_lower : key_bytes unmoved at_primary_with_case_upper_first
    (texts (replicate 14 0x61100000) (replicate 14 0x0500) [] (2 ∷ 2 ∷ 0 ∷ (replicate 11 2)) [] [] [])
    ≡ 0x61 ∷ (replicate 14 0x10 ++ (0x01 ∷ 0x41 ∷ 0xD0 ∷ []))
upper_among_lower = refl

-- "aAb"
mixed_cases : key_bytes unmoved at_primary_with_case (texts (0x61100000 ∷ 0x61100000 ∷ 0x61140000 ∷ []) (0x0500 ∷ 0x0500 ∷ 0x0500 ∷ []) []
    (0 ∷ 2 ∷ 0 ∷ []) [] [] []) ≡ 0x61 ∷ 0x10 ∷ 0x10 ∷ 0x14 ∷ 0x01 ∷ 0xDF ∷ 0x10 ∷ []
mixed_cases = refl

-- "aab": the case level has no bytes
lower_cases : key_bytes unmoved at_primary_with_case (texts (0x61100000 ∷ 0x61100000 ∷ 0x61140000 ∷ []) (0x0500 ∷ 0x0500 ∷ 0x0500 ∷ []) []
    (0 ∷ 0 ∷ 0 ∷ []) [] [] []) ≡ 0x61 ∷ 0x10 ∷ 0x10 ∷ 0x14 ∷ 0x01 ∷ []
lower_cases = refl

-- "a", upper case first
a_upper_first : key_bytes unmoved at_tertiary_upper_first (texts (0x61100000 ∷ []) (0x0500 ∷ []) [] [] (0xC500 ∷ []) [] [])
    ≡ 0x61 ∷ 0x10 ∷ 0x01 ∷ 0x05 ∷ 0x01 ∷ 0x01 ∷ 0x85 ∷ 0x01 ∷ []
a_upper_first = refl

-- "A", upper case first
upper_a_upper_first : key_bytes unmoved at_tertiary_upper_first (texts (0x61100000 ∷ []) (0x0500 ∷ []) [] [] (0x5C00 ∷ []) [] [])
    ≡ 0x61 ∷ 0x10 ∷ 0x01 ∷ 0x05 ∷ 0x01 ∷ 0x01 ∷ 0x1C ∷ 0x01 ∷ []
upper_a_upper_first = refl

-- "a", upper case first in the case level
a_with_case : key_bytes unmoved at_tertiary_with_case_upper_first (texts (0x61100000 ∷ []) (0x0500 ∷ []) [] (2 ∷ []) (0x0500 ∷ []) [] [])
    ≡ 0x61 ∷ 0x10 ∷ 0x01 ∷ 0x05 ∷ 0x01 ∷ 0x01 ∷ 0x30 ∷ 0x01 ∷ 0x05 ∷ 0x01 ∷ []
a_with_case = refl

-- "A", upper case first in the case level
upper_a_with_case : key_bytes unmoved at_tertiary_with_case_upper_first
    (texts (0x61100000 ∷ []) (0x0500 ∷ []) [] (0 ∷ []) (0x1C00 ∷ []) [] [])
    ≡ 0x61 ∷ 0x10 ∷ 0x01 ∷ 0x05 ∷ 0x01 ∷ 0x01 ∷ 0x10 ∷ 0x01 ∷ 0xDC ∷ 0x01 ∷ []
upper_a_with_case = refl

-- "a" and an element with a tertiary alone, upper case first
tertiary_alone : key_bytes unmoved at_tertiary_upper_first (texts (0x61100000 ∷ []) (0x0500 ∷ []) [] [] (0xC500 ∷ 0xFF00 ∷ []) [] [])
    ≡ 0x61 ∷ 0x10 ∷ 0x01 ∷ 0x05 ∷ 0x01 ∷ 0x01 ∷ 0xC5 ∷ 0xFF ∷ 0x01 ∷ []
tertiary_alone = refl

-- no text, backward
empty_backward : key_bytes unmoved at_secondary_backward (texts [] [] ([] ∷ []) [] [] [] []) ≡ 0x01 ∷ 0x01 ∷ []
empty_backward = refl

-- U+FFFE, backward
separator_backward : key_bytes unmoved at_secondary_backward (texts (0x02000000 ∷ []) [] ([] ∷ [] ∷ []) [] [] [] [])
    ≡ 0x02 ∷ 0x01 ∷ 0x02 ∷ 0x01 ∷ []
separator_backward = refl

-- "coté", backward
acute_backward : key_bytes unmoved at_secondary_backward
    (texts (0x61180000 ∷ 0x61480000 ∷ 0x615C0000 ∷ 0x61200000 ∷ []) []
    ((0x4700 ∷ 0x0500 ∷ 0x0500 ∷ 0x0500 ∷ 0x0500 ∷ []) ∷ []) [] [] [] [])
    ≡ 0x61 ∷ 0x18 ∷ 0x48 ∷ 0x5C ∷ 0x20 ∷ 0x01 ∷ 0x47 ∷ 0x08 ∷ 0x01 ∷ []
acute_backward = refl

-- "côte", backward
circumflex_backward : key_bytes unmoved at_secondary_backward
    (texts (0x61180000 ∷ 0x61480000 ∷ 0x615C0000 ∷ 0x61200000 ∷ []) []
    ((0x0500 ∷ 0x0500 ∷ 0x4800 ∷ 0x0500 ∷ 0x0500 ∷ []) ∷ []) [] [] [] [])
    ≡ 0x61 ∷ 0x18 ∷ 0x48 ∷ 0x5C ∷ 0x20 ∷ 0x01 ∷ 0x44 ∷ 0x48 ∷ 0x06 ∷ 0x01 ∷ []
circumflex_backward = refl

-- "coté"
acute_forward : key_bytes unmoved at_secondary
    (texts (0x61180000 ∷ 0x61480000 ∷ 0x615C0000 ∷ 0x61200000 ∷ []) (0x0500 ∷ 0x0500 ∷ 0x0500 ∷ 0x0500 ∷ 0x4700 ∷ []) [] [] [] [] [])
    ≡ 0x61 ∷ 0x18 ∷ 0x48 ∷ 0x5C ∷ 0x20 ∷ 0x01 ∷ 0x42 ∷ 0x47 ∷ 0x01 ∷ []
acute_forward = refl

-- "a", leads 61 and 62 swapped
a_swapped : key_bytes swapped at_primary (texts (0x61100000 ∷ []) (0x0500 ∷ []) [] [] [] [] []) ≡ 0x62 ∷ 0x10 ∷ []
a_swapped = refl

-- "å", leads swapped
ring_swapped : key_bytes swapped at_primary (texts (0x62100000 ∷ []) (0x0500 ∷ []) [] [] [] [] []) ≡ 0x61 ∷ 0x10 ∷ []
ring_swapped = refl

-- "aå", leads swapped
a_ring_swapped : key_bytes swapped at_primary (texts (0x61100000 ∷ 0x62100000 ∷ []) (0x0500 ∷ 0x0500 ∷ []) [] [] [] [] [])
    ≡ 0x62 ∷ 0x10 ∷ 0x03 ∷ 0x61 ∷ 0x10 ∷ []
a_ring_swapped = refl

-- "åa", leads swapped
ring_a_swapped : key_bytes swapped at_primary (texts (0x62100000 ∷ 0x61100000 ∷ []) (0x0500 ∷ 0x0500 ∷ []) [] [] [] [] [])
    ≡ 0x61 ∷ 0x10 ∷ 0xFF ∷ 0x62 ∷ 0x10 ∷ []
ring_a_swapped = refl

-- "abm", lead 61 split
abm_split : key_bytes split at_primary (texts (0x61100000 ∷ 0x61140000 ∷ 0x61400000 ∷ []) (0x0500 ∷ 0x0500 ∷ 0x0500 ∷ []) [] [] [] [] [])
    ≡ 0x90 ∷ 0x10 ∷ 0x14 ∷ 0x03 ∷ 0x61 ∷ 0x40 ∷ []
abm_split = refl

-- "ma", lead 61 split
ma_split : key_bytes split at_primary (texts (0x61400000 ∷ 0x61100000 ∷ []) (0x0500 ∷ 0x0500 ∷ []) [] [] [] [] [])
    ≡ 0x61 ∷ 0x40 ∷ 0xFF ∷ 0x90 ∷ 0x10 ∷ []
ma_split = refl

-- U+03B1 by an offset weight
alpha : key_bytes unmoved at_primary (texts (0x7010FE00 ∷ []) (0x0500 ∷ []) [] [] [] [] []) ≡ 0x70 ∷ 0x10 ∷ 0xFE ∷ []
alpha = refl

-- U+03B2 by an offset weight
beta : key_bytes unmoved at_primary (texts (0x70110400 ∷ []) (0x0500 ∷ []) [] [] [] [] []) ≡ 0x70 ∷ 0x11 ∷ 0x04 ∷ []
beta = refl

-- U+0001 and U+4E00 by implicit weights
implicit : key_bytes unmoved at_primary (texts (0xFE04021E ∷ 0xFE085F64 ∷ []) (0x0500 ∷ 0x0500 ∷ []) [] [] [] [] [])
    ≡ 0xFE ∷ 0x04 ∷ 0x02 ∷ 0x1E ∷ 0x08 ∷ 0x5F ∷ 0x64 ∷ []
implicit = refl

-- "ab" after a prefix
ab_contracted : key_bytes unmoved at_primary (texts (0x61100000 ∷ 0x61120000 ∷ []) (0x0500 ∷ 0x0500 ∷ []) [] [] [] [] [])
    ≡ 0x61 ∷ 0x10 ∷ 0x12 ∷ []
ab_contracted = refl

-- U+AC01 by its jamo
jamo : key_bytes unmoved at_primary (texts (0x65100000 ∷ 0x65710000 ∷ 0x66380000 ∷ []) (0x0500 ∷ 0x0500 ∷ 0x0500 ∷ []) [] [] [] [] [])
    ≡ 0x65 ∷ 0x10 ∷ 0x71 ∷ 0xFF ∷ 0x66 ∷ 0x38 ∷ []
jamo = refl

-- hiragana
hiragana : key_bytes unmoved at_quaternary (texts (0x67100000 ∷ []) (0x0500 ∷ []) [] [] (0x0500 ∷ []) (above_primaries ∷ []) [])
    ≡ 0x67 ∷ 0x10 ∷ 0x01 ∷ 0x05 ∷ 0x01 ∷ 0x01 ∷ 0x05 ∷ 0x01 ∷ 0x01 ∷ 0x01 ∷ []
hiragana = refl

-- katakana
katakana : key_bytes unmoved at_quaternary (texts (0x67100000 ∷ []) (0x0500 ∷ []) [] [] (0x0500 ∷ []) ((above_primaries + 1) ∷ []) [])
    ≡ 0x67 ∷ 0x10 ∷ 0x01 ∷ 0x05 ∷ 0x01 ∷ 0x01 ∷ 0x05 ∷ 0x01 ∷ 0x01 ∷ 0xFD ∷ 0x01 ∷ []
katakana = refl

-- both
both_kana : key_bytes unmoved at_quaternary (texts (0x67100000 ∷ 0x67100000 ∷ []) (0x0500 ∷ 0x0500 ∷ []) [] [] (0x0500 ∷ 0x0500 ∷ [])
    (above_primaries ∷ (above_primaries + 1) ∷ []) [])
    ≡ 0x67 ∷ 0x10 ∷ 0x10 ∷ 0x01 ∷ 0x06 ∷ 0x01 ∷ 0x01 ∷ 0x06 ∷ 0x01 ∷ 0x01 ∷ 0xFC ∷ 0xFD ∷ 0x01 ∷ []
both_kana = refl

-- U+FFFE and two times U+0000, identical
merge_first : key_bytes unmoved at_identical (texts (0x02000000 ∷ []) (0x0500 ∷ []) [] [] (0x0500 ∷ []) (above_primaries ∷ [])
    (0xFFFE ∷ 0x00 ∷ 0x00 ∷ [])) ≡ 0x02 ∷ 0x01 ∷ 0x05 ∷ 0x01 ∷ 0x01 ∷ 0x05 ∷ 0x01 ∷ 0x01 ∷ 0x01 ∷ 0x01 ∷ 0x02 ∷ 0x31 ∷ 0x31 ∷ []
merge_first = refl
