-- How the levels of a text, and what decides the order of two, are shown.
use Rattle.std.specs.Prelude.{ℕ, List, [], ◌∷◌, ◌++◌, Option, Some, None, codes, drop, encode_utf8_all, length, if◌then◌else◌}
use Rattle.collate_commands.specs.Answers.{sign_of}
use Rattle.collate_commands.specs.KeyText.{key_text}
use Rattle.icu_order_texts.specs.weighting.Collations.{Collation}
use Rattle.icu_order_texts.specs.TextOrder.{reading_by, text_key, text_order}
use Rattle.text_reasons.specs.Explanations.{explanation_of}
use Rattle.text_reasons.specs.order_reasons.OrderLevels.{all_levels, level_counts, deciding_level, deciding_part_by, up_to}
use Rattle.icu_order_texts.specs.declared.level_weights.order_level.OrderLevel.{OrderLevel}
use Rattle.icu_order_texts.specs.declared.level_weights.order_level.OrderLevel.TheVariants.{Primary, Secondary, Case, Tertiary, Quaternary, Identical}

-- the name of a level
abbrev pub level_name : OrderLevel → List ℕ
level_name Primary = codes "primary"
level_name Secondary = codes "secondary"
level_name Case = codes "case"
level_name Tertiary = codes "tertiary"
level_name Quaternary = codes "quaternary"
level_name Identical = codes "identical"

-- ---- the levels of a key

-- the name of a level, a tab, and bytes
abbrev pub key_level_line : OrderLevel → List ℕ → List ℕ
key_level_line l bytes = level_name l ++ (codes "\t" ++ (key_text bytes ++ 10 ∷ []))

-- a level and the bytes that it adds to a sort key that has so many before it
abbrev pub level_line : Collation → List ℕ → ℕ → OrderLevel → List ℕ
level_line c text before l = key_level_line l (drop before (text_key (up_to l c) text))

-- a line for each of some levels that count, where a sort key has so many bytes before them
abbrev pub level_lines : Collation → List ℕ → ℕ → List OrderLevel → List ℕ
level_lines c text before [] = []
level_lines c text before (l ∷ ls) =
    if level_counts l c.settings
    then level_line c text before l ++ level_lines c text (length (text_key (up_to l c) text)) ls
    else level_lines c text before ls

-- the parts of a text with their elements, and the levels of its sort key
abbrev pub explained_text : Collation → List ℕ → List ℕ
explained_text c text = explanation_of (reading_by c) text ++ level_lines c text 0 all_levels

-- ---- what decides

-- the characters of two texts that decide, each behind a tab
abbrev pub parts_text : List ℕ → List ℕ → List ℕ
parts_text one other = codes "\t" ++ (encode_utf8_all one ++ (codes "\t" ++ (encode_utf8_all other ++ codes "\n")))

-- that no level decides, or which one does, and by which characters of each text
abbrev pub decision : Collation → List ℕ → List ℕ → Option OrderLevel → List ℕ
decision c t u None = codes "no level differs\n"
decision c t u (Some l) = level_name l ++ (codes " level" ++ parts_text (deciding_part_by c l t u) (deciding_part_by c l u t))

-- the sign of the order of two texts, and what decides
abbrev pub reason_text : Collation → List ℕ → List ℕ → List ℕ
reason_text c t u = sign_of (text_order c t u) ++ (codes "\t" ++ decision c t u (deciding_level c t u))
