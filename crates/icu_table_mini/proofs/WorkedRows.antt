-- What the tables of Mini and of its variants give some characters, computed.
use Rattle.std.proofs.Common.{◌≡◌, ℕ, refl, Option, Some, None}
use Rattle.std.specs.Option.{option_map}
use Rattle.icu_table_provider.specs.Reorderings.{reordered, moved}
use Rattle.icu_table_mini.specs.Characters.{with_characters, mini_characters, mini_others, run}
use Rattle.icu_table_mini.specs.Mini.{Contents, mini}
use Rattle.icu_table_mini.specs.Variants as variants

-- the entry that a variant's tailoring is to give a character
abbrev entry_tailored : Contents → ℕ → Option ℕ
entry_tailored contents c = option_map (λ d. d.value c) contents.tailoring

-- where a variant's reordering takes a primary weight
abbrev primary_taken : Contents → ℕ → Option ℕ
primary_taken contents p = option_map (λ r. reordered r p) contents.reordering

separator : mini.root.value 0xFFFE ≡ 0x02000505
unfolding with_characters mini_characters mini_others
separator = refl

space : mini.root.value 0x20 ≡ 0x03100505
unfolding with_characters mini_characters mini_others
space = refl

digit_1 : mini.root.value 0x31 ≡ 0x000021CA
unfolding with_characters mini_characters mini_others
digit_1 = refl

letter_b : mini.root.value 0x62 ≡ 0x61140505
unfolding with_characters mini_characters mini_others
letter_b = refl

letter_z : mini.root.value 0x7A ≡ 0x61740505
unfolding with_characters mini_characters mini_others
letter_z = refl

capital_A : mini.root.value 0x41 ≡ 0x6110059C
unfolding with_characters mini_characters mini_others
capital_A = refl

circled_A : mini.root.value 0x24B6 ≡ 0x6110059D
unfolding with_characters mini_characters mini_others
circled_A = refl

ideograph : mini.root.value 0x4E00 ≡ 0x000000CF
unfolding with_characters mini_characters mini_others
ideograph = refl

sharp_s : variants.mini_sharp_s.root.value 0xDF ≡ 0x000142C5
unfolding with_characters mini_characters mini_others
sharp_s = refl

letter_b_beside_kana : variants.mini_kana.root.value 0x62 ≡ 0x61140505
unfolding with_characters mini_characters mini_others
letter_b_beside_kana = refl

kana : variants.mini_kana.root.value 0x30A2 ≡ 0x000021C6
unfolding with_characters mini_characters mini_others
kana = refl

a_ring : entry_tailored variants.mini_a_ring 0x61 ≡ Some 0xC9
unfolding with_characters mini_characters mini_others
a_ring = refl

left_to_the_root : entry_tailored variants.mini_a_ring 0x62 ≡ Some 0xC0
unfolding with_characters mini_characters mini_others
left_to_the_root = refl

no_tailoring : entry_tailored mini 0x61 ≡ None
unfolding with_characters mini_characters mini_others
no_tailoring = refl

swapped_lead : primary_taken variants.mini_swapped_leads 0x61100000 ≡ Some 0x62100000
unfolding reordered moved
swapped_lead = refl

split_lead : primary_taken variants.mini_split_lead 0x61180000 ≡ Some 0x90180000
unfolding reordered moved run
split_lead = refl

kept_lead : primary_taken variants.mini_split_lead 0x61400000 ≡ Some 0x61400000
unfolding reordered moved run
kept_lead = refl
