-- Keys of whole texts, computed by the definitions.
use Rattle.std.proofs.Common.{◌≡◌, refl, [], ◌∷◌, ◌++◌}
use Rattle.std.specs.Prelude.{replicate}
use Rattle.icu_options.specs.declared.settings.Strength.TheVariants.{Primary, Secondary, Tertiary, Quaternary, Identical}
use Rattle.icu_order_texts.specs.TextOrder.{text_key}
use Rattle.icu_order_texts.proofs.Computing.{icu_text_order}
use Rattle.icu_order_texts.proofs.WorkedSettings.{plain_at, shifted_at, blanked_at, numeric_at, upper_first_at, case_level_at, upper_case_level_at, currency_shifted_at, mini, backward, spanish, prefixed, greek, kana, with_tertiary, high_currency, swapped, split}

-- ---- levels that count at each strength

-- "": nothing but the bytes that open and close levels
nothing_at_primary : text_key (plain_at Primary mini) [] ≡ []
unfolding icu_text_order
nothing_at_primary = refl

nothing_at_identical : text_key (plain_at Identical mini) [] ≡ 1 ∷ 1 ∷ 1 ∷ 1 ∷ 1 ∷ 1 ∷ 1 ∷ []
unfolding icu_text_order
nothing_at_identical = refl

-- "a"
letter : text_key (plain_at Tertiary mini) (97 ∷ []) ≡ 0x61 ∷ 0x10 ∷ 0x01 ∷ 0x05 ∷ 0x01 ∷ 0x01 ∷ 0x05 ∷ 0x01 ∷ []
unfolding icu_text_order
letter = refl

-- "A"
capital : text_key (plain_at Tertiary mini) (65 ∷ []) ≡ 0x61 ∷ 0x10 ∷ 0x01 ∷ 0x05 ∷ 0x01 ∷ 0x01 ∷ 0xDC ∷ 0x01 ∷ []
unfolding icu_text_order
capital = refl

-- a acute, composed and in parts
composed : text_key (plain_at Tertiary mini) (0xE1 ∷ []) ≡ 0x61 ∷ 0x10 ∷ 0x01 ∷ 0x45 ∷ 0x47 ∷ 0x01 ∷ 0x01 ∷ 0x06 ∷ 0x01 ∷ []
unfolding icu_text_order
composed = refl

in_parts : text_key (plain_at Tertiary mini) (97 ∷ 0x301 ∷ []) ≡ 0x61 ∷ 0x10 ∷ 0x01 ∷ 0x45 ∷ 0x47 ∷ 0x01 ∷ 0x01 ∷ 0x06 ∷ 0x01 ∷ []
unfolding icu_text_order
in_parts = refl

-- "áAbc"
all_levels : text_key (plain_at Identical mini) (0xE1 ∷ 65 ∷ 98 ∷ 99 ∷ []) ≡ 0x61 ∷ 0x10 ∷ 0x10 ∷ 0x14 ∷ 0x18 ∷ 0x01 ∷ 0x45 ∷ 0x47 ∷ 0x07 ∷ 0x01 ∷ 0x01 ∷ 0xC4 ∷ 0xDC ∷ 0x06 ∷ 0x01 ∷ 0x01 ∷ 0x01 ∷ 0x01 ∷ 0x92 ∷ 0xD4 ∷ 0xBA ∷ 0x2D ∷ 0xE8 ∷ 0x93 ∷ 0x94 ∷ []
unfolding icu_text_order
all_levels = refl

-- U+FFFE and two zeros: the character that is lowest at the identical level
lowest_character : text_key (plain_at Identical mini) (0xFFFE ∷ 0 ∷ 0 ∷ []) ≡ 0x02 ∷ 0x01 ∷ 0x05 ∷ 0x01 ∷ 0x01 ∷ 0x05 ∷ 0x01 ∷ 0x01 ∷ 0x01 ∷ 0x01 ∷ 0x02 ∷ 0x31 ∷ 0x31 ∷ []
unfolding icu_text_order
lowest_character = refl

-- ---- primaries

-- "a10b", and as numbers end: each is one weight
number : text_key (numeric_at Primary mini) (97 ∷ 49 ∷ 48 ∷ 98 ∷ []) ≡ 0x61 ∷ 0x10 ∷ 0x03 ∷ 0x0F ∷ 0x0C ∷ 0x61 ∷ 0x14 ∷ []
unfolding icu_text_order
number = refl

-- "1042490"
long_number : text_key (numeric_at Primary mini) (49 ∷ 48 ∷ 52 ∷ 50 ∷ 52 ∷ 57 ∷ 48 ∷ []) ≡ 0x0F ∷ 0x84 ∷ 0x0D ∷ 0x13 ∷ 0x0F ∷ 0x3B ∷ 0xBE ∷ []
unfolding icu_text_order
long_number = refl

-- U+AC01, a syllable of jamo whose lead bytes differ
syllable : text_key (plain_at Primary mini) (0xAC01 ∷ []) ≡ 0x65 ∷ 0x10 ∷ 0x71 ∷ 0xFF ∷ 0x66 ∷ 0x38 ∷ []
unfolding icu_text_order
syllable = refl

-- "pollo", where ll is a letter
contraction : text_key (plain_at Primary spanish) (112 ∷ 111 ∷ 108 ∷ 108 ∷ 111 ∷ []) ≡ 0x61 ∷ 0x4C ∷ 0x48 ∷ 0x3E ∷ 0x48 ∷ []
unfolding icu_text_order
contraction = refl

-- "ab", where b after a is another letter
prefix : text_key (plain_at Primary prefixed) (97 ∷ 98 ∷ []) ≡ 0x61 ∷ 0x10 ∷ 0x12 ∷ []
unfolding icu_text_order
prefix = refl

-- beta, by its distance from alpha
offset : text_key (plain_at Primary greek) (0x3B2 ∷ []) ≡ 0x70 ∷ 0x11 ∷ 0x04 ∷ []
unfolding icu_text_order
offset = refl

-- "aå" and "åa", where lead bytes change places: a lesser lead byte follows 03, a greater one FF
swapped_down : text_key (plain_at Primary swapped) (97 ∷ 0xE5 ∷ []) ≡ 0x62 ∷ 0x10 ∷ 0x03 ∷ 0x61 ∷ 0x10 ∷ []
unfolding icu_text_order
swapped_down = refl

swapped_up : text_key (plain_at Primary swapped) (0xE5 ∷ 97 ∷ []) ≡ 0x61 ∷ 0x10 ∷ 0xFF ∷ 0x62 ∷ 0x10 ∷ []
unfolding icu_text_order
swapped_up = refl

-- "abm", where a range moves the letters before m: they stay compressible
moved_by_a_range : text_key (plain_at Primary split) (97 ∷ 98 ∷ 109 ∷ []) ≡ 0x90 ∷ 0x10 ∷ 0x14 ∷ 0x03 ∷ 0x61 ∷ 0x40 ∷ []
unfolding icu_text_order
moved_by_a_range = refl

-- ---- secondaries

-- 34 times "a"
long_run : text_key (plain_at Secondary mini) (replicate 34 97) ≡ 0x61 ∷ (replicate 34 0x10 ++ 0x01 ∷ 0x25 ∷ 0x05 ∷ 0x01 ∷ [])
unfolding icu_text_order
long_run = refl

-- U+FFFE alone, backward: two segments without a weight
segments_alone : text_key (plain_at Secondary backward) (0xFFFE ∷ []) ≡ 0x02 ∷ 0x01 ∷ 0x02 ∷ 0x01 ∷ []
unfolding icu_text_order
segments_alone = refl

-- "côte" backward, and "coté" forward
backward_circumflex : text_key (plain_at Secondary backward) (99 ∷ 0xF4 ∷ 116 ∷ 101 ∷ []) ≡ 0x61 ∷ 0x18 ∷ 0x48 ∷ 0x5C ∷ 0x20 ∷ 0x01 ∷ 0x44 ∷ 0x48 ∷ 0x06 ∷ 0x01 ∷ []
unfolding icu_text_order
backward_circumflex = refl

forward_acute : text_key (plain_at Secondary mini) (99 ∷ 111 ∷ 116 ∷ 0xE9 ∷ []) ≡ 0x61 ∷ 0x18 ∷ 0x48 ∷ 0x5C ∷ 0x20 ∷ 0x01 ∷ 0x42 ∷ 0x47 ∷ 0x01 ∷ []
unfolding icu_text_order
forward_acute = refl

-- ---- case

-- "aAb" and "aab": lower case alone is written as nothing
case_level : text_key (case_level_at Primary mini) (97 ∷ 65 ∷ 98 ∷ []) ≡ 0x61 ∷ 0x10 ∷ 0x10 ∷ 0x14 ∷ 0x01 ∷ 0xDF ∷ 0x10 ∷ []
unfolding icu_text_order
case_level = refl

lower_case_alone : text_key (case_level_at Primary mini) (97 ∷ 97 ∷ 98 ∷ []) ≡ 0x61 ∷ 0x10 ∷ 0x10 ∷ 0x14 ∷ 0x01 ∷ []
unfolding icu_text_order
lower_case_alone = refl

-- "A", upper case first: among tertiaries, and at a level of its own
upper_first : text_key (upper_first_at Tertiary mini) (65 ∷ []) ≡ 0x61 ∷ 0x10 ∷ 0x01 ∷ 0x05 ∷ 0x01 ∷ 0x01 ∷ 0x1C ∷ 0x01 ∷ []
unfolding icu_text_order
upper_first = refl

upper_first_level : text_key (upper_case_level_at Tertiary mini) (65 ∷ []) ≡ 0x61 ∷ 0x10 ∷ 0x01 ∷ 0x05 ∷ 0x01 ∷ 0x01 ∷ 0x10 ∷ 0x01 ∷ 0xDC ∷ 0x01 ∷ []
unfolding icu_text_order
upper_first_level = refl

-- 14 times "a", upper case first: a run of lower case above a full count
long_case_run : text_key (upper_case_level_at Primary mini) (replicate 14 97) ≡ 0x61 ∷ (replicate 14 0x10 ++ 0x01 ∷ 0xF3 ∷ [])
unfolding icu_text_order
long_case_run = refl

-- "a" and U+0001, upper case first: a tertiary alone keeps its case bits
tertiary_alone : text_key (upper_first_at Tertiary with_tertiary) (97 ∷ 1 ∷ []) ≡ 0x61 ∷ 0x10 ∷ 0x01 ∷ 0x05 ∷ 0x01 ∷ 0x01 ∷ 0xC5 ∷ 0xFF ∷ 0x01 ∷ []
unfolding icu_text_order
tertiary_alone = refl

-- ---- quaternaries

-- "a b" and "ab", where the space is shifted
shifted_space : text_key (shifted_at Quaternary mini) (97 ∷ 32 ∷ 98 ∷ []) ≡ 0x61 ∷ 0x10 ∷ 0x14 ∷ 0x01 ∷ 0x06 ∷ 0x01 ∷ 0x01 ∷ 0x06 ∷ 0x01 ∷ 0x01 ∷ 0x1C ∷ 0x03 ∷ 0x10 ∷ 0x1C ∷ 0x01 ∷ []
unfolding icu_text_order
shifted_space = refl

none_shifted : text_key (shifted_at Quaternary mini) (97 ∷ 98 ∷ []) ≡ 0x61 ∷ 0x10 ∷ 0x14 ∷ 0x01 ∷ 0x06 ∷ 0x01 ∷ 0x01 ∷ 0x06 ∷ 0x01 ∷ 0x01 ∷ 0x1D ∷ 0x01 ∷ []
unfolding icu_text_order
none_shifted = refl

-- "a$b", where the shifted primary leads with 1B or more
high_shifted : text_key (currency_shifted_at Quaternary high_currency) (97 ∷ 36 ∷ 98 ∷ []) ≡ 0x61 ∷ 0x10 ∷ 0x14 ∷ 0x01 ∷ 0x06 ∷ 0x01 ∷ 0x01 ∷ 0x06 ∷ 0x01 ∷ 0x01 ∷ 0x1C ∷ 0x1B ∷ 0x1E ∷ 0x10 ∷ 0x1C ∷ 0x01 ∷ []
unfolding icu_text_order
high_shifted = refl

-- "a b" and "ab", where the space is blanked: common quaternaries alone are written as a run
blanked_space : text_key (blanked_at Quaternary mini) (97 ∷ 32 ∷ 98 ∷ []) ≡ 0x61 ∷ 0x10 ∷ 0x14 ∷ 0x01 ∷ 0x06 ∷ 0x01 ∷ 0x01 ∷ 0x06 ∷ 0x01 ∷ 0x01 ∷ 0x1D ∷ 0x01 ∷ []
unfolding icu_text_order
blanked_space = refl

none_blanked : text_key (blanked_at Quaternary mini) (97 ∷ 98 ∷ []) ≡ 0x61 ∷ 0x10 ∷ 0x14 ∷ 0x01 ∷ 0x06 ∷ 0x01 ∷ 0x01 ∷ 0x06 ∷ 0x01 ∷ 0x01 ∷ 0x1D ∷ 0x01 ∷ []
unfolding icu_text_order
none_blanked = refl

-- at Identical the space is written
blanked_space_at_identical : text_key (blanked_at Identical mini) (97 ∷ 32 ∷ 98 ∷ []) ≡ 0x61 ∷ 0x10 ∷ 0x14 ∷ 0x01 ∷ 0x06 ∷ 0x01 ∷ 0x01 ∷ 0x06 ∷ 0x01 ∷ 0x01 ∷ 0x1D ∷ 0x01 ∷ 0x01 ∷ 0x92 ∷ 0x51 ∷ 0x93 ∷ []
unfolding icu_text_order
blanked_space_at_identical = refl

none_blanked_at_identical : text_key (blanked_at Identical mini) (97 ∷ 98 ∷ []) ≡ 0x61 ∷ 0x10 ∷ 0x14 ∷ 0x01 ∷ 0x06 ∷ 0x01 ∷ 0x01 ∷ 0x06 ∷ 0x01 ∷ 0x01 ∷ 0x1D ∷ 0x01 ∷ 0x01 ∷ 0x92 ∷ 0x93 ∷ []
unfolding icu_text_order
none_blanked_at_identical = refl

-- Hiragana and Katakana a
kana_in_turn : text_key (plain_at Quaternary kana) (0x3042 ∷ 0x30A2 ∷ []) ≡ 0x67 ∷ 0x10 ∷ 0x10 ∷ 0x01 ∷ 0x06 ∷ 0x01 ∷ 0x01 ∷ 0x06 ∷ 0x01 ∷ 0x01 ∷ 0xFC ∷ 0xFD ∷ 0x01 ∷ []
unfolding icu_text_order
kana_in_turn = refl
