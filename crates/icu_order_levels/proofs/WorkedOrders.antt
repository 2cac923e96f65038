-- Worked orders of whole texts, from their weight lists.
use Rattle.std.proofs.Common.{◌≡◌, ◌+◌, [], ◌∷◌, refl, replicate, Less, Equal, Greater}
use Rattle.icu_order_levels.specs.Keys.{levels_order}
use Rattle.icu_order_levels.proofs.WorkedForms.{above_primaries, at_identical, at_primary, at_primary_with_case_upper_first, at_quaternary, at_quaternary_shifted, at_secondary, at_secondary_backward, at_tertiary, at_tertiary_upper_first, at_tertiary_with_case_upper_first, split, swapped, texts, unmoved}

-- "a b" and "ab", shifted
space_shifted : levels_order unmoved at_quaternary_shifted
    (texts (0x61100000 ∷ 0x61140000 ∷ []) (0x0500 ∷ 0x0500 ∷ []) [] [] (0x0500 ∷ 0x0500 ∷ [])
    (above_primaries ∷ 0x03100000 ∷ above_primaries ∷ []) [])
    (texts (0x61100000 ∷ 0x61140000 ∷ []) (0x0500 ∷ 0x0500 ∷ []) [] [] (0x0500 ∷ 0x0500 ∷ []) (above_primaries ∷ above_primaries ∷ []) [])
    ≡ Less
space_shifted = refl

-- "a10b" and "a2b", numbers on
numbers_on : levels_order unmoved at_primary
    (texts (0x61100000 ∷ 0x0F0C0000 ∷ 0x61140000 ∷ []) (0x0500 ∷ 0x0500 ∷ 0x0500 ∷ []) [] [] [] [] [])
    (texts (0x61100000 ∷ 0x0F040000 ∷ 0x61140000 ∷ []) (0x0500 ∷ 0x0500 ∷ 0x0500 ∷ []) [] [] [] [] []) ≡ Greater
numbers_on = refl

-- "a10b" and "a2b", numbers off
numbers_off : levels_order unmoved at_primary
    (texts (0x61100000 ∷ 0x14140000 ∷ 0x14100000 ∷ 0x61140000 ∷ []) (0x0500 ∷ 0x0500 ∷ 0x0500 ∷ 0x0500 ∷ []) [] [] [] [] [])
    (texts (0x61100000 ∷ 0x14180000 ∷ 0x61140000 ∷ []) (0x0500 ∷ 0x0500 ∷ 0x0500 ∷ []) [] [] [] [] []) ≡ Less
numbers_off = refl

-- "1042489" and "1042490"
great_number : levels_order unmoved at_primary (texts (0x0F83FFFF ∷ []) (0x0500 ∷ []) [] [] [] [] [])
    (texts (0x0F840D13 ∷ 0x0F3BBE00 ∷ []) (0x0500 ∷ 0x0500 ∷ []) [] [] [] [] []) ≡ Less
great_number = refl

-- 14 times "a", and "aaA" and 11 times "a", upper case first
case_level : levels_order unmoved at_primary_with_case_upper_first
    (texts (replicate 14 0x61100000) (replicate 14 0x0500) [] (replicate 14 2) [] [] [])
    (texts (replicate 14 0x61100000) (replicate 14 0x0500) [] (2 ∷ 2 ∷ 0 ∷ (replicate 11 2)) [] [] []) ≡ Greater
case_level = refl

-- "coté" and "côte"
diacritics_forward : levels_order unmoved at_secondary
    (texts (0x61180000 ∷ 0x61480000 ∷ 0x615C0000 ∷ 0x61200000 ∷ []) (0x0500 ∷ 0x0500 ∷ 0x0500 ∷ 0x0500 ∷ 0x4700 ∷ []) [] [] [] [] [])
    (texts (0x61180000 ∷ 0x61480000 ∷ 0x615C0000 ∷ 0x61200000 ∷ []) (0x0500 ∷ 0x0500 ∷ 0x4800 ∷ 0x0500 ∷ 0x0500 ∷ []) [] [] [] [] []) ≡ Less
diacritics_forward = refl

-- "coté" and "côte", backward
diacritics_backward : levels_order unmoved at_secondary_backward
    (texts (0x61180000 ∷ 0x61480000 ∷ 0x615C0000 ∷ 0x61200000 ∷ []) []
    ((0x4700 ∷ 0x0500 ∷ 0x0500 ∷ 0x0500 ∷ 0x0500 ∷ []) ∷ []) [] [] [] [])
    (texts (0x61180000 ∷ 0x61480000 ∷ 0x615C0000 ∷ 0x61200000 ∷ []) []
    ((0x0500 ∷ 0x0500 ∷ 0x4800 ∷ 0x0500 ∷ 0x0500 ∷ []) ∷ []) [] [] [] []) ≡ Greater
diacritics_backward = refl

-- "cote" U+FFFE "coté" and "côte" U+FFFE "cote", backward
diacritics_by_segment : levels_order unmoved at_secondary_backward
    (texts (0x61180000 ∷ 0x61480000 ∷ 0x615C0000 ∷ 0x61200000 ∷ 0x02000000 ∷ 0x61180000 ∷ 0x61480000 ∷ 0x615C0000 ∷ 0x61200000 ∷ []) []
    ((0x0500 ∷ 0x0500 ∷ 0x0500 ∷ 0x0500 ∷ []) ∷ (0x4700 ∷ 0x0500 ∷ 0x0500 ∷ 0x0500 ∷ 0x0500 ∷ []) ∷ []) [] [] [] [])
    (texts (0x61180000 ∷ 0x61480000 ∷ 0x615C0000 ∷ 0x61200000 ∷ 0x02000000 ∷ 0x61180000 ∷ 0x61480000 ∷ 0x615C0000 ∷ 0x61200000 ∷ []) []
    ((0x0500 ∷ 0x0500 ∷ 0x4800 ∷ 0x0500 ∷ 0x0500 ∷ []) ∷ (0x0500 ∷ 0x0500 ∷ 0x0500 ∷ 0x0500 ∷ []) ∷ []) [] [] [] []) ≡ Less
diacritics_by_segment = refl

-- U+FFFE U+0000 and U+0000 U+FFFE, identical
separator_lowest : levels_order unmoved at_identical (texts (0x02000000 ∷ []) (0x0500 ∷ []) [] [] (0x0500 ∷ []) (above_primaries ∷ [])
    (0xFFFE ∷ 0x00 ∷ [])) (texts (0x02000000 ∷ []) (0x0500 ∷ []) [] [] (0x0500 ∷ []) (above_primaries ∷ []) (0x00 ∷ 0xFFFE ∷ [])) ≡ Less
separator_lowest = refl

-- "å" and "a", leads 61 and 62 swapped
swapped_leads : levels_order swapped at_primary (texts (0x62100000 ∷ []) (0x0500 ∷ []) [] [] [] [] [])
    (texts (0x61100000 ∷ []) (0x0500 ∷ []) [] [] [] [] []) ≡ Less
swapped_leads = refl

-- "a" and "m", lead 61 split
split_lead : levels_order split at_primary (texts (0x61100000 ∷ []) (0x0500 ∷ []) [] [] [] [] [])
    (texts (0x61400000 ∷ []) (0x0500 ∷ []) [] [] [] [] []) ≡ Greater
split_lead = refl

-- "A" and "a", upper case first
upper_first_order : levels_order unmoved at_tertiary_upper_first (texts (0x61100000 ∷ []) (0x0500 ∷ []) [] [] (0x5C00 ∷ []) [] [])
    (texts (0x61100000 ∷ []) (0x0500 ∷ []) [] [] (0xC500 ∷ []) [] []) ≡ Less
upper_first_order = refl

-- "AB" and "ab", upper case first
upper_first_texts : levels_order unmoved at_tertiary_upper_first
    (texts (0x61100000 ∷ 0x61140000 ∷ []) (0x0500 ∷ 0x0500 ∷ []) [] [] (0x5C00 ∷ 0x5C00 ∷ []) [] [])
    (texts (0x61100000 ∷ 0x61140000 ∷ []) (0x0500 ∷ 0x0500 ∷ []) [] [] (0xC500 ∷ 0xC500 ∷ []) [] []) ≡ Less
upper_first_texts = refl

-- "a" U+0001 "b" and "ab", upper case first in the case level
tertiary_alone_cased : levels_order unmoved at_tertiary_with_case_upper_first
    (texts (0x61100000 ∷ 0x61140000 ∷ []) (0x0500 ∷ 0x0500 ∷ []) [] (2 ∷ 2 ∷ []) (0x0500 ∷ 0x3F00 ∷ 0x0500 ∷ []) [] [])
    (texts (0x61100000 ∷ 0x61140000 ∷ []) (0x0500 ∷ 0x0500 ∷ []) [] (2 ∷ 2 ∷ []) (0x0500 ∷ 0x0500 ∷ []) [] []) ≡ Greater
tertiary_alone_cased = refl

-- hiragana and katakana, tertiary
kana_tertiary : levels_order unmoved at_tertiary (texts (0x67100000 ∷ []) (0x0500 ∷ []) [] [] (0x0500 ∷ []) [] [])
    (texts (0x67100000 ∷ []) (0x0500 ∷ []) [] [] (0x0500 ∷ []) [] []) ≡ Equal
kana_tertiary = refl

-- hiragana and katakana, quaternary
kana_quaternary : levels_order unmoved at_quaternary (texts (0x67100000 ∷ []) (0x0500 ∷ []) [] [] (0x0500 ∷ []) (above_primaries ∷ []) [])
    (texts (0x67100000 ∷ []) (0x0500 ∷ []) [] [] (0x0500 ∷ []) ((above_primaries + 1) ∷ []) []) ≡ Less
kana_quaternary = refl
