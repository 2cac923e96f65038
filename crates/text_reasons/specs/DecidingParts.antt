-- The characters that decide the order of two texts at a level.
use Rattle.std.specs.Prelude.{ℕ, ◌-◌, ◌==◌, Bool, true, false, nat_lt, List, [], Option, Some, None, if◌then◌else◌, drop, length, min, reverse, take}
use Rattle.unicode_normalization.specs.Forms.{nfd}
use Rattle.icu_table_entries.specs.Elements.{Element}
use Rattle.icu_element_reading.specs.TextElements.{Reading, elements_of}
use Rattle.icu_order_levels.specs.declared.forms.KeyForm.{KeyForm}
use Rattle.icu_order_levels.specs.declared.forms.SecondaryForm.{SecondaryForm}
use Rattle.icu_order_levels.specs.declared.forms.SecondaryForm.TheVariants.{Backward, Forward}
use Rattle.icu_order_texts.specs.level_weights.CommonWeights.{common_length}
use Rattle.icu_order_texts.specs.level_weights.Weighings.{Weighing, element_weights, elements_with}
use Rattle.icu_order_texts.specs.declared.level_weights.order_level.OrderLevel.{OrderLevel}
use Rattle.icu_order_texts.specs.declared.level_weights.order_level.OrderLevel.TheVariants as levels
use Rattle.text_reasons.specs.BearingParts.{part_with}

-- secondaries are compared from the end
abbrev pub is_backward_form : Option SecondaryForm → Bool
is_backward_form None = false
is_backward_form (Some Forward) = false
is_backward_form (Some Backward) = true

-- a level is compared from the end
abbrev pub is_from_end : OrderLevel → KeyForm → Bool
is_from_end levels.Primary f = false
is_from_end levels.Secondary f = is_backward_form f.secondary
is_from_end levels.Case f = false
is_from_end levels.Tertiary f = false
is_from_end levels.Quaternary f = false
is_from_end levels.Identical f = false

-- weights in the order in which they are compared
abbrev pub compared : Bool → List ℕ → List ℕ
compared from_end weights = if from_end then reverse weights else weights

-- how many weights two lists begin with alike, as they are compared
abbrev pub alike_weights : Bool → List ℕ → List ℕ → ℕ
alike_weights from_end one other = common_length (compared from_end one) (compared from_end other)

-- how many of so many weights stand before the one that is compared behind so many others
abbrev pub weights_in_front : Bool → ℕ → ℕ → ℕ
weights_in_front from_end count alike = if from_end then count - 1 - alike else alike

-- how many elements it takes for the weight that is compared behind so many others: up to the one that bears it, or all
-- where there are no more weights
abbrev pub bearing_elements : Weighing → List Element → ℕ → ℕ
bearing_elements w es alike =
    let count = length (element_weights w es) in
    if nat_lt alike count then elements_with w (weights_in_front (is_from_end w.level w.form) count alike) es else length es

-- the same weighing at the primary level
abbrev pub at_primary : Weighing → Weighing
at_primary w = record w { level = levels.Primary }

-- how many primaries there are up to the element that bears that weight
abbrev pub primaries_up_to : Weighing → List Element → ℕ → ℕ
primaries_up_to w es alike = length (element_weights (at_primary w) (take (bearing_elements w es alike) es))

-- the elements of a text
abbrev pub text_elements : Reading → List ℕ → List Element
text_elements reading text = elements_of reading (nfd text)

-- how many weights two texts have alike at a level, as they are compared
abbrev pub alike_in_texts : Reading → Weighing → List ℕ → List ℕ → ℕ
alike_in_texts reading w text other =
    alike_weights (is_from_end w.level w.form) (element_weights w (text_elements reading text)) (element_weights w (text_elements reading other))

-- the part of a text whose characters bear the first weight that differs from another text's, or nothing, where the
-- text has no more weights
abbrev pub part_bearing : Reading → Weighing → List ℕ → ℕ → List ℕ
part_bearing reading w text alike =
    let es = text_elements reading text in
    if nat_lt alike (length (element_weights w es)) then part_with reading text (bearing_elements w es alike) else []

-- the part of a text that bears one of its primaries, by its number from 1 on
abbrev pub part_of_primary : Reading → Weighing → List ℕ → ℕ → List ℕ
part_of_primary reading w text number =
    part_with reading text (elements_with (at_primary w) (number - 1) (text_elements reading text))

-- up to which primary two texts of the same primaries have the same weights: the last one before the first weight that
-- differs
abbrev pub primary_apart : Reading → Weighing → List ℕ → List ℕ → ℕ → ℕ
primary_apart reading w text other alike =
    min (primaries_up_to w (text_elements reading text) alike) (primaries_up_to w (text_elements reading other) alike)

-- The letter of a text with a weight that isn't that of another text with the same primaries: both are asked for the
-- part that bears one primary
abbrev pub letter_apart : Reading → Weighing → List ℕ → List ℕ → List ℕ
letter_apart reading w text other =
    let alike = alike_in_texts reading w text other in
    let number = primary_apart reading w text other alike in
    if number == 0 then part_bearing reading w text alike else part_of_primary reading w text number

-- the characters of a text that bear the first weight that isn't that of another text
abbrev pub part_apart : Reading → Weighing → List ℕ → List ℕ → List ℕ
part_apart reading w text other = part_bearing reading w text (alike_in_texts reading w text other)

-- the first decomposed character of a text that isn't that of another, or nothing
abbrev pub character_apart : List ℕ → List ℕ → List ℕ
character_apart text other = take 1 (drop (common_length (nfd text) (nfd other)) (nfd text))

-- The characters of a text that decide at a level, where the levels before it tie, beside another text. At the primary
-- and the quaternary level they bear the first weight that differs, or there are none if the text has ended. At those
-- between, where accents and case belong to letters, they are the letter of each; at the identical level the first
-- decomposed character that differs. A text is taken whole, also where a backward level parts it by U+FFFE
abbrev pub deciding_part : Reading → Weighing → List ℕ → List ℕ → List ℕ
deciding_part reading w text other = elim w.level [
  | levels.Primary ↦ part_apart reading w text other
  | levels.Secondary ↦ letter_apart reading w text other
  | levels.Case ↦ letter_apart reading w text other
  | levels.Tertiary ↦ letter_apart reading w text other
  | levels.Quaternary ↦ part_apart reading w text other
  | levels.Identical ↦ character_apart text other
]
