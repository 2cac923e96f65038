-- Orders of two texts, computed by the definitions.
use Rattle.std.proofs.Common.{◌≡◌, refl, [], ◌∷◌, Less, Equal, Greater}
use Rattle.std.specs.Prelude.{replicate}
use Rattle.icu_options.specs.declared.settings.Strength.TheVariants.{Primary, Secondary, Tertiary, Quaternary, Identical}
use Rattle.icu_order_texts.specs.TextOrder.{text_order}
use Rattle.icu_order_texts.proofs.Computing.{icu_text_order}
use Rattle.icu_order_texts.proofs.WorkedSettings.{plain_at, shifted_at, blanked_at, numeric_at, upper_first_at, case_level_at, upper_case_level_at, mini, backward, lithuanian, spanish, kana, with_tertiary, with_secondary, swapped, split}

-- ---- how texts are read

-- "a10b" and "a2b"
as_numbers : text_order (numeric_at Primary mini) (97 ∷ 49 ∷ 48 ∷ 98 ∷ []) (97 ∷ 50 ∷ 98 ∷ []) ≡ Greater
unfolding icu_text_order
as_numbers = refl

as_digits : text_order (plain_at Primary mini) (97 ∷ 49 ∷ 48 ∷ 98 ∷ []) (97 ∷ 50 ∷ 98 ∷ []) ≡ Less
unfolding icu_text_order
as_digits = refl

-- "a" with a dot and an acute, and a acute: the dot is silent
silent_dot : text_order (plain_at Tertiary lithuanian) (97 ∷ 0x307 ∷ 0x301 ∷ []) (0xE1 ∷ []) ≡ Equal
unfolding icu_text_order
silent_dot = refl

-- "pollo" and "polvo"
two_letters : text_order (plain_at Primary mini) (112 ∷ 111 ∷ 108 ∷ 108 ∷ 111 ∷ []) (112 ∷ 111 ∷ 108 ∷ 118 ∷ 111 ∷ []) ≡ Less
unfolding icu_text_order
two_letters = refl

one_letter : text_order (plain_at Primary spanish) (112 ∷ 111 ∷ 108 ∷ 108 ∷ 111 ∷ []) (112 ∷ 111 ∷ 108 ∷ 118 ∷ 111 ∷ []) ≡ Greater
unfolding icu_text_order
one_letter = refl

-- ---- reordering

-- "å" and "a", where their lead bytes change places
changed_places : text_order (plain_at Primary swapped) (0xE5 ∷ []) (97 ∷ []) ≡ Less
unfolding icu_text_order
changed_places = refl

-- "a" and "m", where the letters before m are moved behind all others
moved_behind : text_order (plain_at Primary split) (97 ∷ []) (109 ∷ []) ≡ Greater
unfolding icu_text_order
moved_behind = refl

-- ---- variable elements

-- "a b" and "ab"
space_at_tertiary : text_order (shifted_at Tertiary mini) (97 ∷ 32 ∷ 98 ∷ []) (97 ∷ 98 ∷ []) ≡ Equal
unfolding icu_text_order
space_at_tertiary = refl

space_at_quaternary : text_order (shifted_at Quaternary mini) (97 ∷ 32 ∷ 98 ∷ []) (97 ∷ 98 ∷ []) ≡ Less
unfolding icu_text_order
space_at_quaternary = refl

-- "a-" with an acute on the hyphen and "b", and "ab": the acute vanishes with the hyphen
mark_after_hyphen : text_order (shifted_at Tertiary mini) (97 ∷ 45 ∷ 0x301 ∷ 98 ∷ []) (97 ∷ 98 ∷ []) ≡ Equal
unfolding icu_text_order
mark_after_hyphen = refl

-- U+034F after a hyphen vanishes, after a letter it counts
secondary_after_hyphen : text_order (shifted_at Secondary with_secondary) (45 ∷ 0x34F ∷ []) (45 ∷ []) ≡ Equal
unfolding icu_text_order
secondary_after_hyphen = refl

secondary_after_letter : text_order (shifted_at Secondary with_secondary) (97 ∷ 0x34F ∷ []) (97 ∷ []) ≡ Greater
unfolding icu_text_order
secondary_after_letter = refl

-- "a b" and "ab", where the space is blanked: it counts at the identical level alone
blanked_space : text_order (blanked_at Quaternary mini) (97 ∷ 32 ∷ 98 ∷ []) (97 ∷ 98 ∷ []) ≡ Equal
unfolding icu_text_order
blanked_space = refl

blanked_space_at_identical : text_order (blanked_at Identical mini) (97 ∷ 32 ∷ 98 ∷ []) (97 ∷ 98 ∷ []) ≡ Less
unfolding icu_text_order
blanked_space_at_identical = refl

-- "U.S.A." and "USA"
blanked_dots : text_order (blanked_at Quaternary mini) (85 ∷ 46 ∷ 83 ∷ 46 ∷ 65 ∷ 46 ∷ []) (85 ∷ 83 ∷ 65 ∷ []) ≡ Equal
unfolding icu_text_order
blanked_dots = refl

-- "a-" with an acute on the hyphen and "b", and "ab": the acute vanishes with the hyphen
blanked_hyphen : text_order (blanked_at Secondary mini) (97 ∷ 45 ∷ 0x301 ∷ 98 ∷ []) (97 ∷ 98 ∷ []) ≡ Equal
unfolding icu_text_order
blanked_hyphen = refl

-- U+034F after a blanked hyphen vanishes, after a letter it counts
blanked_before_secondary : text_order (blanked_at Secondary with_secondary) (45 ∷ 0x34F ∷ []) [] ≡ Equal
unfolding icu_text_order
blanked_before_secondary = refl

secondary_counts : text_order (blanked_at Secondary with_secondary) (97 ∷ 0x34F ∷ []) (97 ∷ []) ≡ Greater
unfolding icu_text_order
secondary_counts = refl

-- ---- secondaries

-- "coté" and "côte": the first accent decides, or the last
first_accent : text_order (plain_at Secondary mini) (99 ∷ 111 ∷ 116 ∷ 0xE9 ∷ []) (99 ∷ 0xF4 ∷ 116 ∷ 101 ∷ []) ≡ Less
unfolding icu_text_order
first_accent = refl

last_accent : text_order (plain_at Secondary backward) (99 ∷ 111 ∷ 116 ∷ 0xE9 ∷ []) (99 ∷ 0xF4 ∷ 116 ∷ 101 ∷ []) ≡ Greater
unfolding icu_text_order
last_accent = refl

-- "cote" and "coté" with U+FFFE between them, and "côte" and "cote": the first field that differs decides
first_field : text_order (plain_at Secondary backward) (99 ∷ 111 ∷ 116 ∷ 101 ∷ 0xFFFE ∷ 99 ∷ 111 ∷ 116 ∷ 0xE9 ∷ []) (99 ∷ 0xF4 ∷ 116 ∷ 101 ∷ 0xFFFE ∷ 99 ∷ 111 ∷ 116 ∷ 101 ∷ []) ≡ Less
unfolding icu_text_order
first_field = refl

-- ---- case

-- "AB" and "ab"
capitals_last : text_order (plain_at Tertiary mini) (65 ∷ 66 ∷ []) (97 ∷ 98 ∷ []) ≡ Greater
unfolding icu_text_order
capitals_last = refl

capitals_first : text_order (upper_first_at Tertiary mini) (65 ∷ 66 ∷ []) (97 ∷ 98 ∷ []) ≡ Less
unfolding icu_text_order
capitals_first = refl

-- "dejavu", "dejAvu" and "déjavu", with a case level and without secondaries
capital_counts : text_order (case_level_at Primary mini) (100 ∷ 101 ∷ 106 ∷ 97 ∷ 118 ∷ 117 ∷ []) (100 ∷ 101 ∷ 106 ∷ 65 ∷ 118 ∷ 117 ∷ []) ≡ Less
unfolding icu_text_order
capital_counts = refl

accent_ignored : text_order (case_level_at Primary mini) (100 ∷ 101 ∷ 106 ∷ 97 ∷ 118 ∷ 117 ∷ []) (100 ∷ 0xE9 ∷ 106 ∷ 97 ∷ 118 ∷ 117 ∷ []) ≡ Equal
unfolding icu_text_order
accent_ignored = refl

-- 14 times "a", and "aaA" and 11 times "a", upper case first
capital_in_a_run : text_order (upper_case_level_at Primary mini) (replicate 14 97) (97 ∷ 97 ∷ 65 ∷ replicate 11 97) ≡ Greater
unfolding icu_text_order
capital_in_a_run = refl

-- "a", U+0001 and "b", and "ab": with a case level tertiaries have no case bits
tertiary_between : text_order (upper_case_level_at Tertiary with_tertiary) (97 ∷ 1 ∷ 98 ∷ []) (97 ∷ 98 ∷ []) ≡ Greater
unfolding icu_text_order
tertiary_between = refl

-- ---- quaternary and identical levels

-- Hiragana and Katakana a
kana_at_tertiary : text_order (plain_at Tertiary kana) (0x3042 ∷ []) (0x30A2 ∷ []) ≡ Equal
unfolding icu_text_order
kana_at_tertiary = refl

kana_at_quaternary : text_order (plain_at Quaternary kana) (0x3042 ∷ []) (0x30A2 ∷ []) ≡ Less
unfolding icu_text_order
kana_at_quaternary = refl

-- a acute, composed and in parts
equivalent : text_order (plain_at Identical mini) (0xE1 ∷ []) (97 ∷ 0x301 ∷ []) ≡ Equal
unfolding icu_text_order
equivalent = refl

-- U+FFFE before U+0000, and after it: U+FFFE is lowest, but it has a primary and U+0000 has none
lowest_first : text_order (plain_at Identical mini) (0xFFFE ∷ 0 ∷ []) (0 ∷ 0xFFFE ∷ []) ≡ Less
unfolding icu_text_order
lowest_first = refl

primary_decides : text_order (plain_at Identical mini) (0xFFFE ∷ []) (0 ∷ []) ≡ Greater
unfolding icu_text_order
primary_decides = refl
